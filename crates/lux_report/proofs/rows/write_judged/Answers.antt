use Rattle.std.proofs.Common.{[], ◌∷◌}
use Rattle.lux_report.specs.Report.{average_row, uniformity_row}
use Rattle.lux_report.specs.Shapes.{Writes}
use Rattle.lux_report.proofs.Written.{writes_both}
use Rattle.lux_report.proofs.rows.write_judged.Goals as goal

pub returns : goal.returns
returns c =
    let check = c.args.check.now in
    let judged = c.args.judged in
    let average : Writes c.args.rows.now c.write_numbers.new.rows (average_row check judged ∷ []) =
    rw (← c.as_str-name.ensures.text, ← c.average_limit.ensures, ← c.from.ensures, ← c.verdict_word-verdict.ensures) c.in_ok-write_numbers.ensures in
    let uniformity : Writes c.write_numbers.new.rows c.write_numbers-2.new.rows (uniformity_row check judged ∷ []) =
    rw (← c.as_str-name.ensures.text, ← c.verdict_word-verdict-2.ensures) c.in_ok-write_numbers-2.ensures in
    writes_both _ _ _ _ _ average uniformity
