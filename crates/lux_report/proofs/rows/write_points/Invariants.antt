use Rattle.std.proofs.Common.{map}
use Rattle.std.specs.List.{range_with_len}
use Rattle.lux_report.specs.Report.{point_row}
use Rattle.lux_report.specs.Shapes.{Writes}
use Rattle.lux_report.proofs.rows.write_points.Given as goal

-- the rows of the points so far
abbrev pub invariant-loop-point : goal.invariant-loop-point
invariant-loop-point l = Writes l.initial.rows l.rows (map (point_row l.name l.points) (range_with_len 0 l.point))
