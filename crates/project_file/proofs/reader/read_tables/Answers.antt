use Rattle.std.proofs.Common.{◌∙◌}
use Rattle.duties.proofs.Orders.{hands_on, this_met, this_fails}
use Rattle.project_file.specs.declared.faults.ProjFault.TheVariants.{Memory}
use Rattle.project_file.specs.Projects.{project_duties}
use Rattle.project_file.proofs.reader.read_tables.Goals as goal

pub returns-in_err-top-clause-answer : goal.returns-in_err-top-clause-answer
unfolding project_duties
returns-in_err-top-clause-answer c = hands_on Memory _ _ _ _ c.from_residual.ensures.1 c.in_err-top.ensures.answer (λ h. this_fails _ _ _ h)

pub returns-in_err-room-clause-answer : goal.returns-in_err-room-clause-answer
unfolding project_duties
returns-in_err-room-clause-answer c =
    let top = c.in_ok-top.ensures in
    hands_on Memory _ _ _ _ c.from_residual-in_err-room.ensures.1 (rw top.room at c.in_err-room.ensures.answer)
    (λ h. this_met _ _ top.answer ∙ this_fails _ _ _ h)

pub returns-in_err-threshold-clause-answer : goal.returns-in_err-threshold-clause-answer
unfolding project_duties
returns-in_err-threshold-clause-answer c =
    let top = c.in_ok-top.ensures in
    hands_on Memory _ _ _ _ c.from_residual-in_err-threshold.ensures.1 (rw top.solver at c.in_err-threshold.ensures.answer)
    (λ h. this_met _ _ top.answer ∙ (this_met _ _ (rw top.room at c.in_ok-room.ensures.answer) ∙ this_fails _ _ _ h))

pub returns-in_err-files-clause-answer : goal.returns-in_err-files-clause-answer
unfolding project_duties
returns-in_err-files-clause-answer c =
    let top = c.in_ok-top.ensures in
    hands_on Memory _ _ _ _ c.from_residual-in_err-files.ensures.1 (rw top.luminaires at c.in_err-files.ensures.answer)
    (λ h. this_met _ _ top.answer ∙ (this_met _ _ (rw top.room at c.in_ok-room.ensures.answer) ∙ (this_met _ _ (rw top.solver at c.in_ok-threshold.ensures.answer) ∙ this_fails _ _ _ h)))

pub returns-in_err-checks-clause-answer : goal.returns-in_err-checks-clause-answer
unfolding project_duties
returns-in_err-checks-clause-answer c =
    let top = c.in_ok-top.ensures in
    hands_on Memory _ _ _ _ c.from_residual-in_err-checks.ensures.1 (rw top.checks at c.in_err-checks.ensures.answer)
    (λ h. this_met _ _ top.answer ∙ (this_met _ _ (rw top.room at c.in_ok-room.ensures.answer) ∙ (this_met _ _ (rw top.solver at c.in_ok-threshold.ensures.answer) ∙ (this_met _ _ (rw top.luminaires at c.in_ok-files.ensures.answer) ∙ this_fails _ _ _ h))))

pub returns-in_err-regions-clause-answer : goal.returns-in_err-regions-clause-answer
unfolding project_duties
returns-in_err-regions-clause-answer c =
    let top = c.in_ok-top.ensures in
    hands_on Memory _ _ _ _ c.from_residual-in_err-regions.ensures.1 (rw top.regions at c.in_err-regions.ensures.answer)
    (λ h. this_met _ _ top.answer ∙ (this_met _ _ (rw top.room at c.in_ok-room.ensures.answer) ∙ (this_met _ _ (rw top.solver at c.in_ok-threshold.ensures.answer) ∙ (this_met _ _ (rw top.luminaires at c.in_ok-files.ensures.answer) ∙ (this_met _ _ (rw top.checks at c.in_ok-checks.ensures.answer) ∙ this_fails _ _ _ h)))))
