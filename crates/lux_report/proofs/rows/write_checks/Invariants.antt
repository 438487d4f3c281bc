use Rattle.std.proofs.Common.{take}
use Rattle.std.specs.List.{flat_map}
use Rattle.lux_report.specs.Facts.{judged_checks}
use Rattle.lux_report.specs.Report.{check_rows}
use Rattle.lux_report.specs.Shapes.{Writes}
use Rattle.lux_report.proofs.rows.write_checks.Given as goal

-- the rows of the checks so far
abbrev pub invariant-loop-number : goal.invariant-loop-number
invariant-loop-number l = Writes l.initial.rows l.rows (flat_map (λ c. check_rows c.0 c.1.0 c.1.1) (take l.number (judged_checks l.project l.facts)))
