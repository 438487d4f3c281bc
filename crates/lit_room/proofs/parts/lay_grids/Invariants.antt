use Rattle.std.proofs.Common.{◌≡◌, None, map, take}
use Rattle.duties.specs.Duties.{each}
use Rattle.grids.specs.Grids.{grid_of}
use Rattle.lit_room.specs.LitRooms.{check_duty}
use Rattle.lit_room.proofs.parts.lay_grids.Given as goal

abbrev pub invariant-loop-at : goal.invariant-loop-at
invariant-loop-at l = record {
  grids : l.grids.items ≡ map (grid_of l.room.spec) (take l.at l.checks);
  met : each l.at (check_duty l.room.spec l.checks) ≡ None;
}
