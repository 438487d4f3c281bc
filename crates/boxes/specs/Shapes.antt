-- Shapes that only the code stands on. No public clause cites these.
use Rattle.std.specs.Prelude.{◌≡◌, ◌+◌, ◌≤◌, List, length, All}
use Rattle.room_patches.specs.declared.box_spec.BoxSpec.{BoxSpec}
use Rattle.room_patches.specs.declared.patch.Patch.{Patch}
use Rattle.room_patches.specs.Cuts.{IsCut}
use Rattle.room_patches.specs.Patches.{IsPatch}
use Rattle.boxes.specs.declared.extent.Extent.{Extent}
use Rattle.boxes.specs.FurnishedRooms.{FurnishedRoom, patches}
use Rattle.boxes.specs.Validity.{IsStretch, IsCount, IsBox}

-- a length that ends within 100,000 millimetres
pub record IsExtent (extent : Extent) : Type 0 where
  pub cut : IsCut extent.cut
  pub near : extent.start + extent.cut.whole ≤ 100000

-- a box that would lie in some room
pub record HasExtents (box : BoxSpec) : Type 0 where
  pub x : IsStretch box.x0 box.x1 100000
  pub y : IsStretch box.y0 box.y1 100000
  pub z : IsStretch box.z0 box.z1 100000
  pub nx : IsCount box.nx
  pub ny : IsCount box.ny
  pub nz : IsCount box.nz

-- a room with its furniture, beside the patches that are kept: all where there is a box, since without one the room has them
pub record IsFurnishedWithPatches (furnished : FurnishedRoom) (kept : List Patch) : Type 0 where
  pub valid : All (IsBox furnished.room.spec) furnished.boxes
  pub all : 1 ≤ length furnished.boxes → kept ≡ patches furnished
  pub some : 1 ≤ length (patches furnished)
  pub few : length (patches furnished) ≤ 4096
  pub patch : All IsPatch kept
