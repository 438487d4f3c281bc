use Rattle.std.proofs.Common.{◌*◌, ◌^◌, arith}
use Rattle.std.proofs.lemmas.Nat.{mul-le}
use Rattle.compliance.proofs.Sides.{sum-lows-le, sum-highs-le}
use Rattle.compliance.proofs.judging.average.Goals as goal

pub overflow_mul-low : goal.overflow_mul-low
overflow_mul-low c =
    let few = sum-lows-le c.args.points.now c.requires.points in
    let most = mul-le c.sums-low.result.0 c.from-maintenance.result (1024 * 10 ^ 30) 1000 (omega arith) (omega arith) in
    omega arith

pub overflow_mul-high : goal.overflow_mul-high
overflow_mul-high c =
    let few = sum-highs-le c.args.points.now c.requires.points in
    let most = mul-le c.sums-low.result.1 c.from-maintenance.result (1024 * 10 ^ 30) 1000 (omega arith) (omega arith) in
    omega arith
