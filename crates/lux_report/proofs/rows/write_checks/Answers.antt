use Rattle.std.proofs.Common.{[], ◌≤◌, ◌<◌, refl, length, get_or}
use Rattle.lux_report.specs.Report.{check_rows}
use Rattle.lux_report.proofs.Covering.{unjudged, checks_grow, checks_end}
use Rattle.lux_report.proofs.Written.{writes_both, writes_same}
use Rattle.lux_report.proofs.rows.write_checks.Goals as goal

pub loop-number-preserved : goal.loop-number-preserved
loop-number-preserved c =
    let p = c.args.project.now in
    let f = c.args.facts.now in
    let below : c.loop-number.number < length p.checks = rw (c.checks-checks.ensures.value) at c.loop-number-test.true in
    writes_same c.args.rows.now c.write_check.new.rows _ _
    (checks_grow p f c.requires.checks (λ c. check_rows c.0 c.1.0 c.1.1) [] c.loop-number.number _ _ c.index-checks-number.result c.points.result.now (get_or c.judged.result.now c.loop-number.number unjudged) below (rw (c.checks-checks.ensures.value) at c.index-checks-number.is) c.points.ensures (rw (c.judged.ensures) refl) refl refl)
    (writes_both c.args.rows.now c.loop-number.rows c.write_check.new.rows _ _ c.loop-number.invariant c.in_ok-write_check.ensures)

pub returns : goal.returns
returns c =
    let p = c.args.project.now in
    let above : length p.checks ≤ c.loop-number.number = rw (c.checks-checks.ensures.value) at c.loop-number-test.false in
    writes_same c.args.rows.now c.loop-number.rows _ _ (checks_end p c.args.facts.now c.requires.checks (λ c. check_rows c.0 c.1.0 c.1.1) c.loop-number.number above) c.loop-number.invariant
