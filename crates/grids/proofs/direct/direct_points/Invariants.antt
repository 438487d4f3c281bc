use Rattle.std.proofs.Common.{◌≡◌, ◌*◌, ◌≤◌, ◌^◌, map}
use Rattle.std.specs.Prelude.{All}
use Rattle.std.specs.List.{range_with_len}
use Rattle.grids.specs.Grids.{point_at}
use Rattle.grids.specs.GridPoint.{direct_at}
use Rattle.grids.proofs.direct.direct_points.Given as goal

abbrev pub invariant-loop-g : goal.invariant-loop-g
invariant-loop-g l = record {
  found : l.direct.items ≡ map (direct_at l.webs l.fixtures) (map (point_at l.grid) (range_with_len 0 l.g));
  limited : All (λ light. light ≤ 2 * 10 ^ 27) l.direct.items;
}
