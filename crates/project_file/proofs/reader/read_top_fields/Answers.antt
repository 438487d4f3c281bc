use Rattle.std.proofs.Common.{◌∙◌}
use Rattle.duties.proofs.Orders.{hands_on, this_met, this_fails}
use Rattle.project_file.specs.declared.faults.ProjFault.TheVariants.{Memory}
use Rattle.project_file.specs.FieldDuties.{fields_duty}
use Rattle.project_file.proofs.KnownVersions.{version_met}
use Rattle.project_file.proofs.reader.read_top_fields.Goals as goal

pub returns-in_err-room-clause-answer : goal.returns-in_err-room-clause-answer
unfolding fields_duty
returns-in_err-room-clause-answer c =
    hands_on Memory _ _ _ _ c.from_residual.ensures.1 c.in_err-room.ensures.answer
    (λ h. this_met _ _ (version_met _ _ _ c.requires) ∙ (this_fails _ _ _ h))

pub returns-in_err-solver-clause-answer : goal.returns-in_err-solver-clause-answer
unfolding fields_duty
returns-in_err-solver-clause-answer c =
    hands_on Memory _ _ _ _ c.from_residual-in_err-solver.ensures.1 c.in_err-solver.ensures.answer
    (λ h. this_met _ _ (version_met _ _ _ c.requires) ∙ (this_met _ _ c.in_ok-room.ensures.answer ∙ (this_fails _ _ _ h)))

pub returns-in_err-luminaires-clause-answer : goal.returns-in_err-luminaires-clause-answer
unfolding fields_duty
returns-in_err-luminaires-clause-answer c =
    hands_on Memory _ _ _ _ c.from_residual-in_err-luminaires.ensures.1 c.in_err-luminaires.ensures.answer
    (λ h. this_met _ _ (version_met _ _ _ c.requires) ∙ (this_met _ _ c.in_ok-room.ensures.answer ∙ (this_met _ _ c.in_ok-solver.ensures.answer ∙ (this_fails _ _ _ h))))

pub returns-in_err-checks-clause-answer : goal.returns-in_err-checks-clause-answer
unfolding fields_duty
returns-in_err-checks-clause-answer c =
    hands_on Memory _ _ _ _ c.from_residual-in_err-checks.ensures.1 c.in_err-checks.ensures.answer
    (λ h. this_met _ _ (version_met _ _ _ c.requires) ∙ (this_met _ _ c.in_ok-room.ensures.answer ∙ (this_met _ _ c.in_ok-solver.ensures.answer ∙ (this_met _ _ c.in_ok-luminaires.ensures.answer ∙ (this_fails _ _ _ h)))))

pub returns-in_err-regions-clause-answer : goal.returns-in_err-regions-clause-answer
unfolding fields_duty
returns-in_err-regions-clause-answer c =
    hands_on Memory _ _ _ _ c.from_residual-in_err-regions.ensures.1 c.in_err-regions.ensures.answer
    (λ h. this_met _ _ (version_met _ _ _ c.requires) ∙ (this_met _ _ c.in_ok-room.ensures.answer ∙ (this_met _ _ c.in_ok-solver.ensures.answer ∙ (this_met _ _ c.in_ok-luminaires.ensures.answer ∙ (this_met _ _ c.in_ok-checks.ensures.answer ∙ h)))))

pub returns-clause-answer : goal.returns-clause-answer
unfolding fields_duty
returns-clause-answer c = this_met _ _ (version_met _ _ _ c.requires) ∙ (this_met _ _ c.in_ok-room.ensures.answer ∙ (this_met _ _ c.in_ok-solver.ensures.answer ∙ (this_met _ _ c.in_ok-luminaires.ensures.answer ∙ (this_met _ _ c.in_ok-checks.ensures.answer ∙ c.in_ok-regions.ensures.answer))))
