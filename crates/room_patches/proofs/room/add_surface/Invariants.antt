use Rattle.std.proofs.Common.{◌≡◌, ◌++◌}
use Rattle.std.specs.List.{range_with_len, flat_map}
use Rattle.room_patches.specs.Patches.{patch_row}
use Rattle.room_patches.proofs.room.add_surface.Given as goal

abbrev pub invariant-loop-row : goal.invariant-loop-row
invariant-loop-row l = l.all.items ≡ l.initial.all.items ++ flat_map (patch_row (record { spec = l.room; regions = l.regions }) l.surface) (range_with_len 0 l.row)
