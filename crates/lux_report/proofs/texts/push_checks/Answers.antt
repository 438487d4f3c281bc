use Rattle.std.proofs.Common.{◌++◌, ◌∙◌, ◌<◌, ◌≤◌, ap, refl, List, ℕ, length, get_or}
use Rattle.lux_report.specs.Report.{check_lines}
use Rattle.lux_report.proofs.Covering.{unjudged, checks_grow, checks_end}
use Rattle.lux_report.proofs.texts.push_checks.Goals as goal

pub loop-number-preserved : goal.loop-number-preserved
loop-number-preserved c =
    let p = c.args.project.now in
    let f = c.args.facts.now in
    let below : c.loop-number.number < length p.checks = rw (c.checks-checks.ensures.value) at c.loop-number-test.true in
    checks_grow p f c.requires (λ c. check_lines c.0 c.1.0 c.1.1) c.args.text.now.items c.loop-number.number c.loop-number.text.items c.push_check.new.text.items
    c.index-checks-number.result c.points.result.now (get_or c.judged.result.now c.loop-number.number unjudged) below (rw (c.checks-checks.ensures.value) at c.index-checks-number.is) c.points.ensures (rw (c.judged.ensures) refl) c.loop-number.invariant c.in_ok-push_check.ensures

pub returns : goal.returns
returns c =
    let p = c.args.project.now in
    let above : length p.checks ≤ c.loop-number.number = rw (c.checks-checks.ensures.value) at c.loop-number-test.false in
    c.loop-number.invariant
    ∙ ap (λ (lines : List ℕ). c.args.text.now.items ++ lines) (checks_end p c.args.facts.now c.requires (λ c. check_lines c.0 c.1.0 c.1.1) c.loop-number.number above)
