use Rattle.std.proofs.Common.{◌∙◌}
use Rattle.duties.proofs.Orders.{hands_on, this_met, this_fails}
use Rattle.project_file.specs.declared.faults.ProjFault.TheVariants.{Memory}
use Rattle.project_file.specs.FieldDuties.{fields_duty}
use Rattle.project_file.proofs.rooms.read_room_fields.Goals as goal

pub returns-in_err-width-clause-answer : goal.returns-in_err-width-clause-answer
unfolding fields_duty
returns-in_err-width-clause-answer c =
    hands_on Memory _ _ _ _ c.from_residual.ensures.1 c.in_err-width.ensures.answer (λ h. this_fails _ _ _ h)

pub returns-in_err-depth-clause-answer : goal.returns-in_err-depth-clause-answer
unfolding fields_duty
returns-in_err-depth-clause-answer c =
    hands_on Memory _ _ _ _ c.from_residual-in_err-depth.ensures.1 c.in_err-depth.ensures.answer (λ h. this_met _ _ c.in_ok-width.ensures.answer ∙ (this_fails _ _ _ h))

pub returns-in_err-height-clause-answer : goal.returns-in_err-height-clause-answer
unfolding fields_duty
returns-in_err-height-clause-answer c =
    hands_on Memory _ _ _ _ c.from_residual-in_err-height.ensures.1 c.in_err-height.ensures.answer (λ h. this_met _ _ c.in_ok-width.ensures.answer ∙ (this_met _ _ c.in_ok-depth.ensures.answer ∙ (this_fails _ _ _ h)))

pub returns-in_err-nx-clause-answer : goal.returns-in_err-nx-clause-answer
unfolding fields_duty
returns-in_err-nx-clause-answer c =
    hands_on Memory _ _ _ _ c.from_residual-in_err-nx.ensures.1 c.in_err-nx.ensures.answer (λ h. this_met _ _ c.in_ok-width.ensures.answer ∙ (this_met _ _ c.in_ok-depth.ensures.answer ∙ (this_met _ _ c.in_ok-height.ensures.answer ∙ (this_fails _ _ _ h))))

pub returns-in_err-floor-clause-answer : goal.returns-in_err-floor-clause-answer
unfolding fields_duty
returns-in_err-floor-clause-answer c =
    hands_on Memory _ _ _ _ c.from_residual-in_err-floor.ensures.1 c.in_err-floor.ensures.answer (λ h. this_met _ _ c.in_ok-width.ensures.answer ∙ (this_met _ _ c.in_ok-depth.ensures.answer ∙ (this_met _ _ c.in_ok-height.ensures.answer ∙ (this_met _ _ c.in_ok-nx.ensures.answer ∙ (this_fails _ _ _ h)))))

pub returns-in_err-ceiling-clause-answer : goal.returns-in_err-ceiling-clause-answer
unfolding fields_duty
returns-in_err-ceiling-clause-answer c =
    hands_on Memory _ _ _ _ c.from_residual-in_err-ceiling.ensures.1 c.in_err-ceiling.ensures.answer (λ h. this_met _ _ c.in_ok-width.ensures.answer ∙ (this_met _ _ c.in_ok-depth.ensures.answer ∙ (this_met _ _ c.in_ok-height.ensures.answer ∙ (this_met _ _ c.in_ok-nx.ensures.answer ∙ (this_met _ _ c.in_ok-floor.ensures.answer ∙ (this_fails _ _ _ h))))))

pub returns-in_err-walls-clause-answer : goal.returns-in_err-walls-clause-answer
unfolding fields_duty
returns-in_err-walls-clause-answer c =
    hands_on Memory _ _ _ _ c.from_residual-in_err-walls.ensures.1 c.in_err-walls.ensures.answer (λ h. this_met _ _ c.in_ok-width.ensures.answer ∙ (this_met _ _ c.in_ok-depth.ensures.answer ∙ (this_met _ _ c.in_ok-height.ensures.answer ∙ (this_met _ _ c.in_ok-nx.ensures.answer ∙ (this_met _ _ c.in_ok-floor.ensures.answer ∙ (this_met _ _ c.in_ok-ceiling.ensures.answer ∙ (this_fails _ _ _ h)))))))
