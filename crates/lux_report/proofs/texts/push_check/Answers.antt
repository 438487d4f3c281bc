use Rattle.std.proofs.Common.{◌≡◌, ◌++◌}
use Rattle.std.specs.Prelude.{codes}
use Rattle.lux_report.specs.Report.{average_limit, judged_line, name_line, point_lines}
use Rattle.std.proofs.Common.{length}
use Rattle.lux_report.proofs.Growing.{grows_fourfold}
use Rattle.lux_report.proofs.texts.push_check.Goals as goal

pub returns : goal.returns
returns c =
    let check = c.args.check.now in
    let judged = c.args.judged in
    let average : c.push_judged.new.text.items ≡ c.push_name.new.text.items ++ judged_line (codes "average") judged.average (average_limit check) judged.average_verdict =
    rw (← c.average_limit-limit.ensures) c.in_ok-push_judged.ensures in
    let uniformity : c.push_judged-2.new.text.items ≡ c.push_judged.new.text.items ++ judged_line (codes "uniformity") judged.uniformity check.uniformity judged.uniformity_verdict =
    rw (← c.from.ensures, ← c.from-2.ensures, ← c.from-limit.ensures) c.in_ok-push_judged-2.ensures in
    grows_fourfold c.args.text.now.items c.push_name.new.text.items c.push_judged.new.text.items c.push_judged-2.new.text.items _ (name_line check (length c.args.points.now))
    (judged_line (codes "average") judged.average (average_limit check) judged.average_verdict)
    (judged_line (codes "uniformity") judged.uniformity check.uniformity judged.uniformity_verdict) (point_lines c.args.points.now)
    c.in_ok-push_name.ensures average uniformity c.in_ok-push_points.ensures
