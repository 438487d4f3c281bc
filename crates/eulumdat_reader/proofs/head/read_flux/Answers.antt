use Rattle.std.proofs.Common.{◌≡◌, ◌∙◌, arith}
use Rattle.duties.proofs.Orders.{hands_on, this_met, this_fails}
use Rattle.eulumdat_reader.specs.declared.faults.LdtFault.TheVariants.{Memory}
use Rattle.eulumdat_reader.specs.Heads.{flux_duties}
use Rattle.eulumdat_reader.proofs.head.read_flux.Goals as goal

pub returns-in_err-skip_rows-clause-answer : goal.returns-in_err-skip_rows-clause-answer
unfolding flux_duties
returns-in_err-skip_rows-clause-answer c =
    hands_on Memory _ _ _ _ c.from_residual.ensures.1 (rw c.requires at c.in_err-skip_rows.ensures.answer)
    (λ h. this_fails _ _ _ h)

pub returns-in_err-flux-clause-answer : goal.returns-in_err-flux-clause-answer
unfolding flux_duties
returns-in_err-flux-clause-answer c =
    let a = c.in_ok-skip_rows.ensures in
    let p1 : c.skip_rows.new.source.read ≡ 28 = omega (arith, c.requires, a.next) in
    hands_on Memory _ _ _ _ c.from_residual-in_err-flux.ensures.1 (rw (a.same, p1) at c.in_err-flux.ensures.answer)
    (λ h. this_met _ _ (rw c.requires at a.answer) ∙ (this_fails _ _ _ h))

pub returns-in_err-skip_rows-2-clause-answer : goal.returns-in_err-skip_rows-2-clause-answer
unfolding flux_duties
returns-in_err-skip_rows-2-clause-answer c =
    let a = c.in_ok-skip_rows.ensures in
    let b = c.in_ok-flux.ensures in
    let p1 : c.skip_rows.new.source.read ≡ 28 = omega (arith, c.requires, a.next) in
    let p2 : c.read_factor.new.source.read ≡ 29 = omega (arith, p1, b.next) in
    hands_on Memory _ _ _ _ c.from_residual-in_err-skip_rows-2.ensures.1 (rw (b.same ∙ a.same, p2) at c.in_err-skip_rows-2.ensures.answer)
    (λ h. this_met _ _ (rw c.requires at a.answer) ∙ (this_met _ _ (rw (a.same, p1) at b.answer) ∙ (this_fails _ _ _ h)))
