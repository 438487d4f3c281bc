use Rattle.lux_report.specs.Report.{point_rows}
use Rattle.lux_report.specs.Shapes.{Writes}
use Rattle.lux_report.proofs.Written.{writes_both}
use Rattle.lux_report.proofs.rows.write_check.Goals as goal

pub returns : goal.returns
returns c =
    let points : Writes c.write_judged.new.rows c.write_points.new.rows (point_rows c.args.check.now.name c.args.points.now) =
    rw (← c.as_str.ensures.text) c.in_ok-write_points.ensures in
    writes_both _ _ _ _ _ c.in_ok-write_judged.ensures points
