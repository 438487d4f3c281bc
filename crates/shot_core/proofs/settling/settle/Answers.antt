use Rattle.std.proofs.Common.{◌≡◌, ℕ, ◌≤◌, length, get_or, ap, subst, ◌∙◌, arith}
use Rattle.picker.specs.Greatest.{greatest_place}
use Rattle.flux_ledger.proofs.Bounds.{balances}
use Rattle.shot_core.specs.Shots.{shot}
use Rattle.shot_core.specs.Settling.{brightest_patch, settled_ledger}
use Rattle.shot_core.proofs.Keeping.{after_balanced, after_paid}
use Rattle.shot_core.proofs.Ending.{settling_goes_on}
use Rattle.shot_core.proofs.settling.settle.Goals as goal

pub settle_on-requires-clause-balanced : goal.settle_on-requires-clause-balanced
settle_on-requires-clause-balanced c =
    let follows = c.refill.ensures ∙ c.as_slice.ensures in
    after_balanced c.args.system.now c.len-2.ensures.system c.args.ledger.now c.requires.balanced c.requires.paid c.requires.flux c.best-patch.result.0 c.best-patch.result.1 (cc) (omega (arith, ap length follows)) (omega arith) _ c.shoot_first.ensures.shot

pub settle_on-requires-clause-paid : goal.settle_on-requires-clause-paid
settle_on-requires-clause-paid c =
    let follows = c.refill.ensures ∙ c.as_slice.ensures in
    after_paid c.args.system.now c.len-2.ensures.system c.args.ledger.now c.requires.balanced c.requires.paid c.requires.flux c.best-patch.result.0 c.best-patch.result.1 (cc) (omega (arith, ap length follows)) (omega arith) _ c.shoot_first.ensures.shot

pub returns-clause-settled : goal.returns-clause-settled
returns-clause-settled c =
    let s = c.args.system.now in
    let l = c.args.ledger.now in
    let i : ℕ = c.best-patch.result.0 in
    let follows = c.refill.ensures ∙ c.as_slice.ensures in
    let first : i ≡ brightest_patch l.residual = c.best-patch.ensures.place ∙ ap greatest_place follows in
    let flux : c.best-patch.result.1 ≡ get_or l.residual i 0 = cc in
    let enough : s.threshold ≤ get_or l.residual i 0 = omega arith in
    let reaching = subst (λ (k : ℕ). s.threshold ≤ get_or l.residual k 0) first enough in
    c.settle_on.ensures.settled ∙ (ap (settled_ledger s) c.shoot_first.ensures.shot ∙ (ap (λ (k : ℕ). settled_ledger s (shot s l k)) first ∙ settling_goes_on s c.len-2.ensures.system l (balances s l c.requires.balanced) reaching))
