use Rattle.std.proofs.Common.{◌≡◌, ◌++◌, take}
use Rattle.std.specs.List.{flat_map}
use Rattle.room_patches.specs.Patches.{patches}
use Rattle.boxes.specs.Boxes.{box_patches}
use Rattle.boxes.proofs.furnished.kept_patches.Given as goal

abbrev pub invariant-loop-spec : goal.invariant-loop-spec
invariant-loop-spec l = l.all.items ≡ patches l.room ++ flat_map box_patches (take l.spec-index l.boxes)
