use Rattle.std.proofs.Common.{◌≡◌, ℕ, ◌<◌, ◌≤◌, ◌^◌, map}
use Rattle.std.specs.Prelude.{All}
use Rattle.std.specs.List.{range_with_len}
use Rattle.grids.specs.GridPoint.{light_between, EnclosesLight}
use Rattle.project_file.specs.Projects.{project_room}
use Rattle.room_facts.specs.RoomFacts.{direct_on}
use Rattle.room_facts.proofs.points.point_intervals.Given as goal

abbrev pub invariant-loop-g : goal.invariant-loop-g
invariant-loop-g l =
    let direct = direct_on l.lit_room l.grid in
    record {
      value : l.points.items ≡ map (light_between (project_room l.lit_room.project) l.grid direct l.bounds) (range_with_len 0 l.g);
      enclosed : (i : ℕ) → i < l.g → EnclosesLight (project_room l.lit_room.project) l.grid direct l.bounds i (light_between (project_room l.lit_room.project) l.grid direct l.bounds i);
      ordered : All (λ ends. ends.0 ≤ ends.1) l.points.items;
      bounded : All (λ ends. ends.1 ≤ 10 ^ 30) l.points.items;
    }
