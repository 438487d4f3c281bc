use Rattle.std.proofs.Common.{◌≡◌, ℕ, ◌*◌, ◌/◌, ap, ◌∙◌}
use Rattle.std.specs.List.{sum}
use Rattle.flux_system.specs.System.{FluxSystem, scale, least_keep}
use Rattle.flux_system.proofs.Limits.{past_flux, past_takes, within_limits}
use Rattle.flux_system.proofs.system.System.takes_bound.Goals as goal

-- the bound, by the numbers that it is made of
quotient : (s : FluxSystem) (total a b c d : ℕ) → a ≡ scale → b ≡ total → c ≡ s.threshold → d ≡ least_keep s → a * b / (c * d) ≡ scale * total / (s.threshold * least_keep s)
quotient s total a b c d a_is b_is c_is d_is = λ k. a_is k * b_is k / (c_is k * d_is k)

pub returns-then-sum-gt-MOST_FLUX-clause-answer : goal.returns-then-sum-gt-MOST_FLUX-clause-answer
returns-then-sum-gt-MOST_FLUX-clause-answer c = past_flux c.args.self.now c.args.direct.now _ c.total_flux-sum.ensures c.if-sum-gt-MOST_FLUX.true

pub returns-then-bound-gt-MOST_TAKES-clause-answer : goal.returns-then-bound-gt-MOST_TAKES-clause-answer
returns-then-bound-gt-MOST_TAKES-clause-answer c =
    let is = quotient c.args.self.now (sum c.args.direct.now) c.from-3.result c.total_flux-sum.result c.from.result c.from-2.result c.from-3.ensures c.total_flux-sum.ensures
    (c.from.ensures ∙ ap (λ (s : FluxSystem). s.threshold) c.self.view_is) (c.from-2.ensures ∙ c.least_keep.ensures.value) in
    past_takes c.args.self.now c.args.direct.now _ c.total_flux-sum.ensures c.if-sum-gt-MOST_FLUX.false _ is c.if-bound-gt-MOST_TAKES.true

pub returns-clause-answer : goal.returns-clause-answer
returns-clause-answer c =
    let is = quotient c.args.self.now (sum c.args.direct.now) c.from-3.result c.total_flux-sum.result c.from.result c.from-2.result c.from-3.ensures c.total_flux-sum.ensures
    (c.from.ensures ∙ ap (λ (s : FluxSystem). s.threshold) c.self.view_is) (c.from-2.ensures ∙ c.least_keep.ensures.value) in
    within_limits c.args.self.now c.args.direct.now _ c.total_flux-sum.ensures c.if-sum-gt-MOST_FLUX.false _ is c.if-bound-gt-MOST_TAKES.false
