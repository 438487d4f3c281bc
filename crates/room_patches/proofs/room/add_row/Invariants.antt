use Rattle.std.proofs.Common.{◌≡◌, ◌++◌, map}
use Rattle.std.specs.List.{range_with_len}
use Rattle.room_patches.specs.Patches.{patch_at}
use Rattle.room_patches.proofs.room.add_row.Given as goal

abbrev pub invariant-loop-column : goal.invariant-loop-column
invariant-loop-column l = l.all.items ≡ l.initial.all.items ++ map (λ column. patch_at (record { spec = l.room; regions = l.regions }) l.surface column l.row) (range_with_len 0 l.column)
