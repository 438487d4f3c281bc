use Rattle.std.proofs.Common.{◌≡◌, ℕ, ◌*◌, ap, arith}
use Rattle.compliance.specs.Verdict.{published_verdict}
use Rattle.compliance.proofs.Enclosing.{low-whole, average-judged, uniformity-judged, average-ordered, uniformity-ordered, average-bounded}
use Rattle.compliance.proofs.judging.judge.Goals as goal

pub overflow_cast-result : goal.overflow_cast-result
overflow_cast-result c =
    let whole = low-whole c.args.points.now c.requires.points in
    let is = ap (λ (ends : ℕ × ℕ). ends.0) c.uniformity-low.ensures in
    omega arith

pub returns-clause-average_judged : goal.returns-clause-average_judged
returns-clause-average_judged c =
    let told : c.verdict.result ≡ published_verdict (1000 * c.args.check.now.average) c.average-average.result = cc in
    average-judged c.args.check.now.maintenance c.args.points.now c.requires.points _ _ _ c.average-average.ensures told

pub returns-clause-uniformity_judged : goal.returns-clause-uniformity_judged
returns-clause-uniformity_judged c =
    let told : c.verdict-2.result ≡ published_verdict c.args.check.now.uniformity c.uniformity-low.result = cc in
    uniformity-judged c.args.points.now c.requires.points _ _ _ c.uniformity-low.ensures told

pub returns-clause-average_order : goal.returns-clause-average_order
returns-clause-average_order c = let order = average-ordered c.args.check.now.maintenance c.args.points.now c.requires.points in rw c.average-average.ensures order

pub returns-clause-average_bound : goal.returns-clause-average_bound
returns-clause-average_bound c = rw c.average-average.ensures (average-bounded c.args.check.now.maintenance c.args.points.now c.requires.limits.maintenance c.requires.points)

pub returns-clause-uniformity_order : goal.returns-clause-uniformity_order
returns-clause-uniformity_order c = rw c.uniformity-low.ensures (uniformity-ordered c.args.points.now c.requires.points)
