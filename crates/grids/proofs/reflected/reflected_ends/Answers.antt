use Rattle.std.proofs.Common.{◌<◌, length, ◌∙◌, arith}
use Rattle.std.proofs.lemmas.Nat.{mul-le}
use Rattle.grids.specs.GridPoint.{low_end, high_end}
use Rattle.grids.proofs.Sums.{light_of_none, light_with_next, light_when_done}
use Rattle.grids.proofs.reflected.reflected_ends.Goals as goal

pub loop-i-init : goal.loop-i-init
loop-i-init c = record {
  low = light_of_none c.args.patches.now c.args.point (low_end c.args.bounds.now);
  high = light_of_none c.args.patches.now c.args.point (high_end c.args.bounds.now);
  order = omega arith;
  limited = omega arith;
}

pub loop-i-preserved : goal.loop-i-preserved
loop-i-preserved c =
    let weight = c.from-weight.ensures ∙ c.weight.ensures.value in
    let inside : c.loop-i.i < length c.args.patches.now = c.loop-i-test.true in
    let ends = c.requires.order c.loop-i.i (0, 0) (omega arith) in
    let most = c.requires.limited c.loop-i.i (0, 0) (omega arith) in
    let up = mul-le c.from-weight.result c.from.result c.from-weight.result c.from-in-loop-i.result (omega arith) (omega arith) in
    let limit = mul-le c.from-weight.result c.from-in-loop-i.result 30239439170000000 400010000000000000 (omega arith) (omega arith) in
    record {
      low = light_with_next c.args.patches.now c.args.point (low_end c.args.bounds.now) c.loop-i.i _ c.loop-i.low _ _ inside weight c.from.ensures c.loop-i.invariant.low;
      high = light_with_next c.args.patches.now c.args.point (high_end c.args.bounds.now) c.loop-i.i _ c.loop-i.high _ _ inside weight c.from-in-loop-i.ensures c.loop-i.invariant.high;
      order = omega arith;
      limited = omega arith;
    }

pub returns-clause-low : goal.returns-clause-low
returns-clause-low c = light_when_done c.args.patches.now c.args.point (low_end c.args.bounds.now) c.loop-i.i _ (omega arith) c.loop-i.invariant.low

pub returns-clause-high : goal.returns-clause-high
returns-clause-high c = light_when_done c.args.patches.now c.args.point (high_end c.args.bounds.now) c.loop-i.i _ (omega arith) c.loop-i.invariant.high
