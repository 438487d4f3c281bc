use Rattle.std.proofs.Common.{◌≡◌, ◌+◌, ◌*◌, ◌≤◌, ◌^◌}
use Rattle.grids.specs.GridPoint.{low_end, high_end}
use Rattle.grids.proofs.Sums.{light_of_first}
use Rattle.grids.proofs.reflected.reflected_ends.Given as goal

abbrev pub invariant-loop-i : goal.invariant-loop-i
invariant-loop-i l = record {
  low : l.low ≡ light_of_first l.i l.patches l.point (low_end l.bounds);
  high : l.high ≡ light_of_first l.i l.patches l.point (high_end l.bounds);
  order : l.low ≤ l.high;
  limited : l.high ≤ l.i * (950 * (318309886 * 10 ^ 5) * (4 * 10 ^ 17 + 10 ^ 13));
}
