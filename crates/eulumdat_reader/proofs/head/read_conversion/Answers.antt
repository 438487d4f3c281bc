use Rattle.std.proofs.Common.{◌≡◌, ◌∙◌, arith}
use Rattle.duties.proofs.Orders.{hands_on, this_met, this_fails}
use Rattle.eulumdat_reader.specs.declared.faults.LdtFault.TheVariants.{Memory}
use Rattle.eulumdat_reader.specs.Heads.{factor_duties}
use Rattle.eulumdat_reader.proofs.head.read_conversion.Goals as goal

pub returns-in_err-skip_rows-clause-answer : goal.returns-in_err-skip_rows-clause-answer
unfolding factor_duties
returns-in_err-skip_rows-clause-answer c =
    hands_on Memory _ _ _ _ c.from_residual.ensures.1 (rw c.requires at c.in_err-skip_rows.ensures.answer)
    (λ h. this_fails _ _ _ h)

pub returns-in_err-factor-clause-answer : goal.returns-in_err-factor-clause-answer
unfolding factor_duties
returns-in_err-factor-clause-answer c =
    let a = c.in_ok-skip_rows.ensures in
    let p1 : c.skip_rows.new.source.read ≡ 23 = omega (arith, c.requires, a.next) in
    hands_on Memory _ _ _ _ c.from_residual-in_err-factor.ensures.1 (rw (a.same, p1) at c.in_err-factor.ensures.answer)
    (λ h. this_met _ _ (rw c.requires at a.answer) ∙ (this_fails _ _ _ h))

pub returns-in_err-skip_rows-2-clause-answer : goal.returns-in_err-skip_rows-2-clause-answer
unfolding factor_duties
returns-in_err-skip_rows-2-clause-answer c =
    let a = c.in_ok-skip_rows.ensures in
    let b = c.in_ok-factor.ensures in
    let p1 : c.skip_rows.new.source.read ≡ 23 = omega (arith, c.requires, a.next) in
    let p2 : c.read_factor.new.source.read ≡ 24 = omega (arith, p1, b.next) in
    hands_on Memory _ _ _ _ c.from_residual-in_err-skip_rows-2.ensures.1 (rw (b.same ∙ a.same, p2) at c.in_err-skip_rows-2.ensures.answer)
    (λ h. this_met _ _ (rw c.requires at a.answer) ∙ (this_met _ _ (rw (a.same, p1) at b.answer) ∙ (this_fails _ _ _ h)))

pub returns-in_err-read_lamp_sets-clause-answer : goal.returns-in_err-read_lamp_sets-clause-answer
unfolding factor_duties
returns-in_err-read_lamp_sets-clause-answer c =
    let a = c.in_ok-skip_rows.ensures in
    let b = c.in_ok-factor.ensures in
    let d = c.in_ok-skip_rows-2.ensures in
    let p1 : c.skip_rows.new.source.read ≡ 23 = omega (arith, c.requires, a.next) in
    let p2 : c.read_factor.new.source.read ≡ 24 = omega (arith, p1, b.next) in
    let p3 : c.skip_rows-2.new.source.read ≡ 25 = omega (arith, p2, d.next) in
    hands_on Memory _ _ _ _ c.from_residual-in_err-read_lamp_sets.ensures.1 (rw (d.same ∙ (b.same ∙ a.same), p3) at c.in_err-read_lamp_sets.ensures.answer)
    (λ h. this_met _ _ (rw c.requires at a.answer) ∙ (this_met _ _ (rw (a.same, p1) at b.answer) ∙ (this_met _ _ (rw (b.same ∙ a.same, p2) at d.answer) ∙ (this_fails _ _ _ h))))
