use Rattle.std.proofs.Common.{◌∙◌}
use Rattle.duties.proofs.Orders.{hands_on, this_met, this_fails}
use Rattle.project_file.specs.declared.faults.ProjFault.TheVariants.{Memory}
use Rattle.project_file.specs.FieldDuties.{fields_duty}
use Rattle.project_file.proofs.luminaires.read_fixture.Goals as goal

pub returns-in_err-x-clause-answer : goal.returns-in_err-x-clause-answer
unfolding fields_duty
returns-in_err-x-clause-answer c =
    hands_on Memory _ _ _ _ c.from_residual.ensures.1 c.in_err-x.ensures.answer (λ h. this_fails _ _ _ h)

pub returns-in_err-y-clause-answer : goal.returns-in_err-y-clause-answer
unfolding fields_duty
returns-in_err-y-clause-answer c =
    hands_on Memory _ _ _ _ c.from_residual-in_err-y.ensures.1 c.in_err-y.ensures.answer (λ h. this_met _ _ c.in_ok-x.ensures.answer ∙ (this_fails _ _ _ h))

pub returns-in_err-z-clause-answer : goal.returns-in_err-z-clause-answer
unfolding fields_duty
returns-in_err-z-clause-answer c =
    hands_on Memory _ _ _ _ c.from_residual-in_err-z.ensures.1 c.in_err-z.ensures.answer (λ h. this_met _ _ c.in_ok-x.ensures.answer ∙ (this_met _ _ c.in_ok-y.ensures.answer ∙ (this_fails _ _ _ h)))

pub returns-in_err-rotation-clause-answer : goal.returns-in_err-rotation-clause-answer
unfolding fields_duty
returns-in_err-rotation-clause-answer c =
    hands_on Memory _ _ _ _ c.from_residual-in_err-rotation.ensures.1 c.in_err-rotation.ensures.answer (λ h. this_met _ _ c.in_ok-x.ensures.answer ∙ (this_met _ _ c.in_ok-y.ensures.answer ∙ (this_met _ _ c.in_ok-z.ensures.answer ∙ (this_fails _ _ _ h))))

pub returns-in_err-level-clause-answer : goal.returns-in_err-level-clause-answer
unfolding fields_duty
returns-in_err-level-clause-answer c =
    hands_on Memory _ _ _ _ c.from_residual-in_err-level.ensures.1 c.in_err-level.ensures.answer (λ h. this_met _ _ c.in_ok-x.ensures.answer ∙ (this_met _ _ c.in_ok-y.ensures.answer ∙ (this_met _ _ c.in_ok-z.ensures.answer ∙ (this_met _ _ c.in_ok-rotation.ensures.answer ∙ (this_fails _ _ _ h)))))
