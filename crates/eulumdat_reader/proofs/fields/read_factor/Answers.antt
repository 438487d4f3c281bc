use Rattle.duties.proofs.Orders.{hands_on, this_fails}
use Rattle.eulumdat_reader.specs.declared.faults.LdtFault.TheVariants.{Memory}
use Rattle.eulumdat_reader.specs.Rows.{field}
use Rattle.eulumdat_reader.proofs.fields.read_factor.Goals as goal

pub returns-in_err-number-clause-answer : goal.returns-in_err-number-clause-answer
unfolding field
returns-in_err-number-clause-answer c = hands_on Memory _ _ _ _ c.from_residual.ensures.1 c.in_err-number.ensures.answer (this_fails _ _ _)
