use Rattle.std.proofs.Common.{◌≡◌, ◌++◌}
use Rattle.std.specs.List.{range_with_len, flat_map}
use Rattle.boxes.specs.Boxes.{patch_row}
use Rattle.boxes.proofs.furnished.add_face.Given as goal

abbrev pub invariant-loop-row : goal.invariant-loop-row
invariant-loop-row l = l.all.items ≡ l.initial.all.items ++ flat_map (patch_row l.spec l.face) (range_with_len 0 l.row)
