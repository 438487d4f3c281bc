use Rattle.std.proofs.Common.{◌≡◌, ◌∙◌, arith}
use Rattle.duties.proofs.Orders.{hands_on, this_met, this_fails}
use Rattle.system_file.specs.declared.faults.SysFault.TheVariants.{Memory}
use Rattle.system_file.specs.SystemText.{list_duties}
use Rattle.system_file.proofs.reader.read_lists.Goals as goal

pub returns-in_err-direct-clause-answer : goal.returns-in_err-direct-clause-answer
unfolding list_duties
returns-in_err-direct-clause-answer c =
    hands_on Memory _ _ _ _ c.from_residual.ensures.1 (rw c.requires.place at c.in_err-direct.ensures.answer) (λ h. this_fails _ _ _ h)

pub returns-in_err-reflectance-clause-answer : goal.returns-in_err-reflectance-clause-answer
unfolding list_duties
returns-in_err-reflectance-clause-answer c =
    let a = c.in_ok-direct.ensures in
    let fourth : c.read_direct.new.source.read ≡ 4 = omega (arith, a.next) in
    hands_on Memory _ _ _ _ c.from_residual-in_err-reflectance.ensures.1 (rw (a.same, fourth) at c.in_err-reflectance.ensures.answer)
    (λ h. this_met _ _ (rw c.requires.place at a.answer) ∙ this_fails _ _ _ h)

pub returns-in_err-shares-clause-answer : goal.returns-in_err-shares-clause-answer
unfolding list_duties
returns-in_err-shares-clause-answer c =
    let a = c.in_ok-direct.ensures in
    let b = c.in_ok-reflectance.ensures in
    let fourth : c.read_direct.new.source.read ≡ 4 = omega (arith, a.next) in
    hands_on Memory _ _ _ _ c.from_residual-in_err-shares.ensures.1 (rw (b.same ∙ a.same) at c.in_err-shares.ensures.answer)
    (λ h. this_met _ _ (rw c.requires.place at a.answer) ∙ (this_met _ _ (rw (a.same, fourth) at b.answer) ∙ this_fails _ _ _ h))
