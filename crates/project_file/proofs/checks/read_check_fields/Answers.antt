use Rattle.std.proofs.Common.{◌∙◌}
use Rattle.duties.proofs.Orders.{hands_on, this_met, this_fails, last_decides}
use Rattle.project_file.specs.declared.faults.ProjFault.TheVariants.{Memory}
use Rattle.project_file.specs.FieldDuties.{fields_duty}
use Rattle.project_file.proofs.checks.read_check_fields.Goals as goal

pub returns-in_err-label-clause-answer : goal.returns-in_err-label-clause-answer
unfolding fields_duty
returns-in_err-label-clause-answer c =
    hands_on Memory _ _ _ _ c.from_residual.ensures.1 c.in_err-label.ensures.answer (λ h. this_fails _ _ _ h)

pub returns-in_err-x0-clause-answer : goal.returns-in_err-x0-clause-answer
unfolding fields_duty
returns-in_err-x0-clause-answer c =
    hands_on Memory _ _ _ _ c.from_residual-in_err-x0.ensures.1 c.in_err-x0.ensures.answer (λ h. this_met _ _ c.in_ok-label.ensures.answer ∙ (this_fails _ _ _ h))

pub returns-in_err-y0-clause-answer : goal.returns-in_err-y0-clause-answer
unfolding fields_duty
returns-in_err-y0-clause-answer c =
    hands_on Memory _ _ _ _ c.from_residual-in_err-y0.ensures.1 c.in_err-y0.ensures.answer (λ h. this_met _ _ c.in_ok-label.ensures.answer ∙ (this_met _ _ c.in_ok-x0.ensures.answer ∙ (this_fails _ _ _ h)))

pub returns-in_err-z-clause-answer : goal.returns-in_err-z-clause-answer
unfolding fields_duty
returns-in_err-z-clause-answer c =
    hands_on Memory _ _ _ _ c.from_residual-in_err-z.ensures.1 c.in_err-z.ensures.answer (λ h. this_met _ _ c.in_ok-label.ensures.answer ∙ (this_met _ _ c.in_ok-x0.ensures.answer ∙ (this_met _ _ c.in_ok-y0.ensures.answer ∙ (this_fails _ _ _ h))))

pub returns-in_err-px-clause-answer : goal.returns-in_err-px-clause-answer
unfolding fields_duty
returns-in_err-px-clause-answer c =
    hands_on Memory _ _ _ _ c.from_residual-in_err-px.ensures.1 c.in_err-px.ensures.answer (λ h. this_met _ _ c.in_ok-label.ensures.answer ∙ (this_met _ _ c.in_ok-x0.ensures.answer ∙ (this_met _ _ c.in_ok-y0.ensures.answer ∙ (this_met _ _ c.in_ok-z.ensures.answer ∙ (this_fails _ _ _ h)))))

pub returns-in_err-maintenance-clause-answer : goal.returns-in_err-maintenance-clause-answer
unfolding fields_duty
returns-in_err-maintenance-clause-answer c =
    hands_on Memory _ _ _ _ c.from_residual-in_err-maintenance.ensures.1 c.in_err-maintenance.ensures.answer (λ h. this_met _ _ c.in_ok-label.ensures.answer ∙ (this_met _ _ c.in_ok-x0.ensures.answer ∙ (this_met _ _ c.in_ok-y0.ensures.answer ∙ (this_met _ _ c.in_ok-z.ensures.answer ∙ (this_met _ _ c.in_ok-px.ensures.answer ∙ (this_fails _ _ _ h))))))

pub returns-in_err-average-clause-answer : goal.returns-in_err-average-clause-answer
unfolding fields_duty
returns-in_err-average-clause-answer c =
    hands_on Memory _ _ _ _ c.from_residual-in_err-average.ensures.1 c.in_err-average.ensures.answer (λ h. this_met _ _ c.in_ok-label.ensures.answer ∙ (this_met _ _ c.in_ok-x0.ensures.answer ∙ (this_met _ _ c.in_ok-y0.ensures.answer ∙ (this_met _ _ c.in_ok-z.ensures.answer ∙ (this_met _ _ c.in_ok-px.ensures.answer ∙ (this_met _ _ c.in_ok-maintenance.ensures.answer ∙ (this_fails _ _ _ h)))))))

pub returns-in_err-uniformity-clause-answer : goal.returns-in_err-uniformity-clause-answer
unfolding fields_duty
returns-in_err-uniformity-clause-answer c =
    hands_on Memory _ _ _ _ c.from_residual-in_err-uniformity.ensures.1 c.in_err-uniformity.ensures.answer (λ h. this_met _ _ c.in_ok-label.ensures.answer ∙ (this_met _ _ c.in_ok-x0.ensures.answer ∙ (this_met _ _ c.in_ok-y0.ensures.answer ∙ (this_met _ _ c.in_ok-z.ensures.answer ∙ (this_met _ _ c.in_ok-px.ensures.answer ∙ (this_met _ _ c.in_ok-maintenance.ensures.answer ∙ (this_met _ _ c.in_ok-average.ensures.answer ∙ (this_fails _ _ _ h))))))))

pub returns-clause-answer : goal.returns-clause-answer
unfolding fields_duty
returns-clause-answer c = this_met _ _ c.in_ok-label.ensures.answer ∙ (this_met _ _ c.in_ok-x0.ensures.answer ∙ (this_met _ _ c.in_ok-y0.ensures.answer ∙ (this_met _ _ c.in_ok-z.ensures.answer ∙ (this_met _ _ c.in_ok-px.ensures.answer ∙ (this_met _ _ c.in_ok-maintenance.ensures.answer ∙ (this_met _ _ c.in_ok-average.ensures.answer ∙ (last_decides _ ∙ c.in_ok-uniformity.ensures.answer)))))))
