use Rattle.std.proofs.Common.{arith}
use Rattle.compliance.proofs.Sides.{least-low-fits, least-high-fits}
use Rattle.compliance.proofs.judging.uniformity.Goals as goal

pub overflow_mul-least_low : goal.overflow_mul-least_low
overflow_mul-least_low c = let fits = least-low-fits c.args.points.now c.requires _ c.leasts-least_low.ensures.low in omega arith

pub overflow_mul-least_low-2 : goal.overflow_mul-least_low-2
overflow_mul-least_low-2 c = let fits = least-low-fits c.args.points.now c.requires _ c.leasts-least_low.ensures.low in omega arith

pub overflow_mul-least_high : goal.overflow_mul-least_high
overflow_mul-least_high c = let fits = least-high-fits c.args.points.now c.requires _ c.leasts-least_low.ensures.high in omega arith

pub overflow_mul-least_high-2 : goal.overflow_mul-least_high-2
overflow_mul-least_high-2 c = let fits = least-high-fits c.args.points.now c.requires _ c.leasts-least_low.ensures.high in omega arith
