use Rattle.std.proofs.Common.{◌≡◌, ◌++◌}
use Rattle.std.specs.List.{flat_map, range_with_len}
use Rattle.lux_report.specs.Report.{point_line}
use Rattle.lux_report.proofs.texts.push_points.Given as goal

-- the text before, and the lines of the points so far
abbrev pub invariant-loop-point : goal.invariant-loop-point
invariant-loop-point l = l.text.items ≡ l.initial.text.items ++ flat_map (point_line l.points) (range_with_len 0 l.point)
