use Rattle.lux_report.specs.Report.{point_row}
use Rattle.lux_report.proofs.Written.{writes_row}
use Rattle.lux_report.proofs.rows.write_points.Goals as goal

pub loop-point-preserved : goal.loop-point-preserved
loop-point-preserved c =
    writes_row c.args.rows.now c.loop-point.rows c.write_point.new.rows (point_row c.args.name.now c.args.points.now) c.loop-point.point c.loop-point.invariant c.in_ok-write_point.ensures
