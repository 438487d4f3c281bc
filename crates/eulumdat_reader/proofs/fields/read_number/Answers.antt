use Rattle.std.proofs.Common.{◌+◌}
use Rattle.duties.proofs.Orders.{hands_on}
use Rattle.lux_lines.specs.Pieces.{line_piece}
use Rattle.eulumdat_reader.specs.declared.faults.LdtFault.TheVariants.{Memory}
use Rattle.eulumdat_reader.specs.Rows.{all_lines}
use Rattle.eulumdat_reader.proofs.Walking.{number_duty_some, numeric_missing}
use Rattle.eulumdat_reader.proofs.fields.read_number.Goals as goal

pub returns-in_err-line-clause-answer : goal.returns-in_err-line-clause-answer
returns-in_err-line-clause-answer c = hands_on Memory _ _ _ _ c.from_residual.ensures.1 c.in_err-line.ensures.answer (numeric_missing (all_lines c.args.source.now) (c.args.source.now.read + 1) _)

pub returns-clause-answer : goal.returns-clause-answer
returns-clause-answer c =
    let is = number_duty_some (all_lines c.args.source.now) (c.args.source.now.read + 1) (line_piece c.in_ok-line.line) c.in_ok-line.ensures.line in
    rw (is.0, ← c.in_ok-line.ensures.number) c.number_of.ensures.answer

pub returns-clause-value : goal.returns-clause-value
returns-clause-value c =
    let is = number_duty_some (all_lines c.args.source.now) (c.args.source.now.read + 1) (line_piece c.in_ok-line.line) c.in_ok-line.ensures.line in
    rw is.1 c.number_of.ensures.value
