use Rattle.laws.proofs.Ranges.{lists_grow}
use Rattle.lux_report.specs.Report.{point_line}
use Rattle.lux_report.proofs.texts.push_points.Goals as goal

pub loop-point-preserved : goal.loop-point-preserved
loop-point-preserved c =
    lists_grow (point_line c.args.points.now) c.args.text.now.items c.loop-point.point _ _ c.loop-point.invariant c.in_ok-push_point.ensures
