use Rattle.std.proofs.Common.{◌≡◌, ◌∙◌, ◌+◌, ℕ, Option, Some, sym, ap, arith}
use Rattle.lux_lines.specs.Walks.{LinesRead}
use Rattle.lux_lines.specs.Pieces.{line_piece}
use Rattle.eulumdat_reader.specs.declared.faults.LdtFault.{LdtFault}
use Rattle.eulumdat_reader.specs.declared.faults.LdtFault.TheVariants.{Short}
use Rattle.eulumdat_reader.specs.Rows.{all_lines}
use Rattle.eulumdat_reader.proofs.Walking.{few_lines, row_behind, presence_duty_none, presence_duty_some}
use Rattle.eulumdat_reader.proofs.rows.Rows.row.Goals as goal

pub overflow_add-result : goal.overflow_add-result
overflow_add-result c = omega (arith, few_lines c.self.inside.lines.text)

pub returns-clause-answer : goal.returns-clause-answer
returns-clause-answer c = presence_duty_some _ _ (line_piece c.in-Some.line) (row_behind (all_lines c.args.self.now) c.args.self.now.read ∙ sym c.in-Some.ensures.line)

pub returns-clause-line : goal.returns-clause-line
returns-clause-line c = row_behind (all_lines c.args.self.now) c.args.self.now.read ∙ sym c.in-Some.ensures.line

pub returns-in_default-clause-answer : goal.returns-in_default-clause-answer
returns-in_default-clause-answer c = λ _.
    let row : c.self.inside.read + 1 ≡ c.args.self.now.read + 1 =
    omega (arith, c.self.invariant.counted, ap (λ (r : LinesRead). r.read) c.self.view_is, c.in_default.ensures.end) in
    presence_duty_none (all_lines c.args.self.now) (c.args.self.now.read + 1) (row_behind (all_lines c.args.self.now) c.args.self.now.read ∙ sym c.in_default.ensures.line)
    ∙ ap (λ (n : ℕ). let d : Option LdtFault = Some (Short n) in d) (sym row)
