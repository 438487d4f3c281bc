use Rattle.std.proofs.Common.{◌∙◌}
use Rattle.duties.proofs.Orders.{hands_on, this_met, this_fails}
use Rattle.project_file.specs.declared.faults.ProjFault.TheVariants.{Memory}
use Rattle.project_file.specs.FieldDuties.{fields_duty}
use Rattle.project_file.proofs.regions.read_region_fields.Goals as goal

pub returns-in_err-surface-clause-answer : goal.returns-in_err-surface-clause-answer
unfolding fields_duty
returns-in_err-surface-clause-answer c =
    hands_on Memory _ _ _ _ c.from_residual.ensures.1 c.in_err-surface.ensures.answer (λ h. this_fails _ _ _ h)

pub returns-in_err-u0-clause-answer : goal.returns-in_err-u0-clause-answer
unfolding fields_duty
returns-in_err-u0-clause-answer c =
    hands_on Memory _ _ _ _ c.from_residual-in_err-u0.ensures.1 c.in_err-u0.ensures.answer (λ h. this_met _ _ c.in_ok-surface.ensures.answer ∙ (this_fails _ _ _ h))

pub returns-in_err-v0-clause-answer : goal.returns-in_err-v0-clause-answer
unfolding fields_duty
returns-in_err-v0-clause-answer c =
    hands_on Memory _ _ _ _ c.from_residual-in_err-v0.ensures.1 c.in_err-v0.ensures.answer (λ h. this_met _ _ c.in_ok-surface.ensures.answer ∙ (this_met _ _ c.in_ok-u0.ensures.answer ∙ (this_fails _ _ _ h)))

pub returns-in_err-reflectance-clause-answer : goal.returns-in_err-reflectance-clause-answer
unfolding fields_duty
returns-in_err-reflectance-clause-answer c =
    hands_on Memory _ _ _ _ c.from_residual-in_err-reflectance.ensures.1 c.in_err-reflectance.ensures.answer (λ h. this_met _ _ c.in_ok-surface.ensures.answer ∙ (this_met _ _ c.in_ok-u0.ensures.answer ∙ (this_met _ _ c.in_ok-v0.ensures.answer ∙ (this_fails _ _ _ h))))
