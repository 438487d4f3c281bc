use Rattle.std.proofs.Common.{◌≡◌, map}
use Rattle.std.specs.List.{range_with_len}
use Rattle.grids.specs.Grids.{point_at}
use Rattle.grids.proofs.grid.all_points.Given as goal

abbrev pub invariant-loop-g : goal.invariant-loop-g
invariant-loop-g l = l.all.items ≡ map (point_at l.grid) (range_with_len 0 l.g)
