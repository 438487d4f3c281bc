use Rattle.std.proofs.Common.{◌≡◌, ◌++◌, take}
use Rattle.std.specs.List.{flat_map}
use Rattle.boxes.specs.Boxes.{faces, patches_of}
use Rattle.boxes.proofs.furnished.add_box.Given as goal

abbrev pub invariant-loop-face : goal.invariant-loop-face
invariant-loop-face l = l.all.items ≡ l.initial.all.items ++ flat_map (patches_of l.spec) (take l.face-index faces)
