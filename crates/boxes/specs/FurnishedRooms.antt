-- A furnished room: a room, and the boxes in it.
use Rattle.std.specs.Prelude.{List, ◌++◌}
use Rattle.std.specs.List.{flat_map}
use Rattle.room_patches.specs.declared.box_spec.BoxSpec.{BoxSpec}
use Rattle.room_patches.specs.declared.patch.Patch.{Patch}
use Rattle.room_patches.specs.Rooms.{Room}
use Rattle.room_patches.specs.Patches.{patches as patches_of_room}
use Rattle.boxes.specs.Boxes.{box_patches}

pub record FurnishedRoom : Type 0 where
  pub room : Room
  pub boxes : List BoxSpec

-- all patches: those of the room, and then those of the boxes, box by box
unfoldable pub patches : FurnishedRoom → List Patch
patches furnished = patches_of_room furnished.room ++ flat_map box_patches furnished.boxes
