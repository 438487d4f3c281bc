use Rattle.std.proofs.Common.{◌≡◌, ◌∙◌, ◌+◌, arith}
use Rattle.duties.proofs.Orders.{hands_on, this_met, this_fails}
use Rattle.lm63_reader.specs.declared.faults.LmFault.TheVariants.{Memory}
use Rattle.lm63_reader.specs.Heads.{count_duties}
use Rattle.lm63_reader.proofs.head.read_counts.Goals as goal

pub returns-in_err-verticals-clause-answer : goal.returns-in_err-verticals-clause-answer
unfolding count_duties
returns-in_err-verticals-clause-answer c = hands_on Memory _ _ _ _ c.from_residual.ensures.1 c.in_err-verticals.ensures.answer (λ h. this_fails _ _ _ h)

pub returns-in_err-horizontals-clause-answer : goal.returns-in_err-horizontals-clause-answer
unfolding count_duties
returns-in_err-horizontals-clause-answer c =
    let a = c.in_ok-verticals.ensures in
    hands_on Memory _ _ _ _ c.from_residual-in_err-horizontals.ensures.1 (rw (a.same, a.next) at c.in_err-horizontals.ensures.answer)
    (λ h. this_met _ _ a.answer ∙ this_fails _ _ _ h)

pub returns-in_err-read_whole-clause-answer : goal.returns-in_err-read_whole-clause-answer
unfolding count_duties
returns-in_err-read_whole-clause-answer c =
    let a = c.in_ok-verticals.ensures in
    let b = c.in_ok-horizontals.ensures in
    let second : c.read_whole-2.new.source.read ≡ c.args.source.now.read + 2 = omega (arith, a.next, b.next) in
    hands_on Memory _ _ _ _ c.from_residual-in_err-read_whole.ensures.1 (rw (b.same ∙ a.same, second) at c.in_err-read_whole.ensures.answer)
    (λ h. this_met _ _ a.answer ∙ (this_met _ _ (rw (a.same, a.next) at b.answer) ∙ this_fails _ _ _ h))

pub returns-in_err-read_whole-2-clause-answer : goal.returns-in_err-read_whole-2-clause-answer
unfolding count_duties
returns-in_err-read_whole-2-clause-answer c =
    let a = c.in_ok-verticals.ensures in
    let b = c.in_ok-horizontals.ensures in
    let d = c.in_ok-read_whole.ensures in
    let second : c.read_whole-2.new.source.read ≡ c.args.source.now.read + 2 = omega (arith, a.next, b.next) in
    let third : c.read_whole-3.new.source.read ≡ c.args.source.now.read + 3 = omega (arith, second, d.next) in
    hands_on Memory _ _ _ _ c.from_residual-in_err-read_whole-2.ensures.1 (rw (d.same ∙ (b.same ∙ a.same), third) at c.in_err-read_whole-2.ensures.answer)
    (λ h. this_met _ _ a.answer ∙ (this_met _ _ (rw (a.same, a.next) at b.answer) ∙ (this_met _ _ (rw (b.same ∙ a.same, second) at d.answer) ∙ this_fails _ _ _ h)))
