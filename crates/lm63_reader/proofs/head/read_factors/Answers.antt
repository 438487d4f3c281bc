use Rattle.std.proofs.Common.{◌≡◌, ◌∙◌, ◌+◌, arith}
use Rattle.duties.proofs.Orders.{hands_on, this_met, this_fails}
use Rattle.lm63_reader.specs.declared.faults.LmFault.TheVariants.{Memory}
use Rattle.lm63_reader.specs.Heads.{factor_duties}
use Rattle.lm63_reader.proofs.head.read_factors.Goals as goal

pub returns-in_err-skip_numbers-clause-answer : goal.returns-in_err-skip_numbers-clause-answer
unfolding factor_duties
returns-in_err-skip_numbers-clause-answer c = hands_on Memory _ _ _ _ c.from_residual.ensures.1 c.in_err-skip_numbers.ensures.answer (λ h. this_fails _ _ _ h)

pub returns-in_err-ballast-clause-answer : goal.returns-in_err-ballast-clause-answer
unfolding factor_duties
returns-in_err-ballast-clause-answer c =
    let a = c.in_ok-skip_numbers.ensures in
    hands_on Memory _ _ _ _ c.from_residual-in_err-ballast.ensures.1 (rw (a.same, a.next) at c.in_err-ballast.ensures.answer)
    (λ h. this_met _ _ a.answer ∙ this_fails _ _ _ h)

pub returns-in_err-future-clause-answer : goal.returns-in_err-future-clause-answer
unfolding factor_duties
returns-in_err-future-clause-answer c =
    let a = c.in_ok-skip_numbers.ensures in
    let b = c.in_ok-ballast.ensures in
    let fourth : c.read_factor.new.source.read ≡ c.args.source.now.read + 4 = omega (arith, a.next, b.next) in
    hands_on Memory _ _ _ _ c.from_residual-in_err-future.ensures.1 (rw (b.same ∙ a.same, fourth) at c.in_err-future.ensures.answer)
    (λ h. this_met _ _ a.answer ∙ (this_met _ _ (rw (a.same, a.next) at b.answer) ∙ this_fails _ _ _ h))

pub returns-in_err-skip_numbers-2-clause-answer : goal.returns-in_err-skip_numbers-2-clause-answer
unfolding factor_duties
returns-in_err-skip_numbers-2-clause-answer c =
    let a = c.in_ok-skip_numbers.ensures in
    let b = c.in_ok-ballast.ensures in
    let d = c.in_ok-future.ensures in
    let fourth : c.read_factor.new.source.read ≡ c.args.source.now.read + 4 = omega (arith, a.next, b.next) in
    let fifth : c.read_factor-2.new.source.read ≡ c.args.source.now.read + 5 = omega (arith, fourth, d.next) in
    hands_on Memory _ _ _ _ c.from_residual-in_err-skip_numbers-2.ensures.1 (rw (d.same ∙ (b.same ∙ a.same), fifth) at c.in_err-skip_numbers-2.ensures.answer)
    (λ h. this_met _ _ a.answer ∙ (this_met _ _ (rw (a.same, a.next) at b.answer) ∙ (this_met _ _ (rw (b.same ∙ a.same, fourth) at d.answer) ∙ this_fails _ _ _ h)))
