use Rattle.duties.proofs.Orders.{hands_on, this_fails}
use Rattle.project_file.proofs.Steps.{then_answers}
use Rattle.project_file.specs.declared.faults.ProjFault.TheVariants.{Memory}
use Rattle.project_file.specs.FieldDuties.{table_duty}
use Rattle.project_file.proofs.regions.read_region.Goals as goal

pub returns-in_err-check_keys-clause-answer : goal.returns-in_err-check_keys-clause-answer
unfolding table_duty
returns-in_err-check_keys-clause-answer c = hands_on Memory _ _ _ _ c.from_residual.ensures.1 c.in_err-check_keys.ensures (λ h. this_fails _ _ _ h)

pub returns-clause-answer : goal.returns-clause-answer
unfolding table_duty
returns-clause-answer c = then_answers Memory _ _ _ c.in_ok-check_keys.ensures c.read_region_fields.ensures.answer
