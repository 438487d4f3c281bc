use Rattle.std.proofs.Common.{◌≡◌, ◌∙◌, ◌+◌, arith}
use Rattle.duties.proofs.Orders.{hands_on, this_met, this_fails}
use Rattle.lm63_reader.specs.declared.faults.LmFault.TheVariants.{Memory}
use Rattle.lm63_reader.specs.Heads.{head_duties}
use Rattle.lm63_reader.proofs.head.read_head.Goals as goal

pub returns-in_err-multiplier-clause-answer : goal.returns-in_err-multiplier-clause-answer
unfolding head_duties
returns-in_err-multiplier-clause-answer c = hands_on Memory _ _ _ _ c.from_residual.ensures.1 c.in_err-multiplier.ensures.answer (λ h. this_fails _ _ _ h)

pub returns-in_err-verticals-clause-answer : goal.returns-in_err-verticals-clause-answer
unfolding head_duties
returns-in_err-verticals-clause-answer c =
    let a = c.in_ok-multiplier.ensures in
    hands_on Memory _ _ _ _ c.from_residual-in_err-verticals.ensures.1 (rw (a.same, a.next) at c.in_err-verticals.ensures.answer)
    (λ h. this_met _ _ a.answer ∙ this_fails _ _ _ h)

pub returns-in_err-ballast-clause-answer : goal.returns-in_err-ballast-clause-answer
unfolding head_duties
returns-in_err-ballast-clause-answer c =
    let a = c.in_ok-multiplier.ensures in
    let b = c.in_ok-verticals.ensures in
    let seventh : c.read_counts.new.source.read ≡ c.args.source.now.read + 7 = omega (arith, a.next, b.next) in
    hands_on Memory _ _ _ _ c.from_residual-in_err-ballast.ensures.1 (rw (b.same ∙ a.same, seventh) at c.in_err-ballast.ensures.answer)
    (λ h. this_met _ _ a.answer ∙ (this_met _ _ (rw (a.same, a.next) at b.answer) ∙ this_fails _ _ _ h))
