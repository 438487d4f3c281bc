-- Shapes that only the code stands on. No public clause cites these.
use Rattle.std.specs.Prelude.{◌≡◌, List}
use Rattle.room_patches.specs.declared.patch.Patch.{Patch}
use Rattle.room_patches.specs.Rooms.{Room}
use Rattle.room_patches.specs.Patches.{patches}
use Rattle.room_patches.specs.Validity.{IsRoom, AreRegions}

-- what a valid room was asked for by, beside its patches
pub record IsRoomWithPatches (room : Room) (all_patches : List Patch) : Type 0 where
  pub valid : IsRoom room.spec
  pub regions : AreRegions room.spec room.regions
  pub all : all_patches ≡ patches room
