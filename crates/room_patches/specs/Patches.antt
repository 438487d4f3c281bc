-- The patches of a room: its six surfaces, cut into rectangles. Their order is this project's own.
use Rattle.std.specs.Prelude.{ℕ, ◌*◌, ◌≤◌, ◌^◌, ℤ, pos, negsuc, ◌-ℤ◌, Bool, true, false, if◌then◌else◌, List, [], ◌∷◌, map}
use Rattle.std.specs.List.{range_with_len, flat_map}
use Rattle.room_patches.specs.declared.spec.RoomSpec.{RoomSpec}
use Rattle.room_patches.specs.declared.cut.Cut.{Cut}
use Rattle.room_patches.specs.declared.patch.Patch.{Patch}
use Rattle.room_patches.specs.declared.surface.Surface.{Surface}
use Rattle.room_patches.specs.declared.surface.Surface.TheVariants.{Floor, Ceiling, Left, Right, Front, Back}
use Rattle.room_patches.specs.Cuts.{middle, part}
use Rattle.room_patches.specs.Places.{coordinate, IsPlace}
use Rattle.room_patches.specs.Rooms.{Room}
use Rattle.room_patches.specs.Surfaces.{surfaces, reflectance_at}

-- the three axes of a room
abbrev pub along_x : RoomSpec → Cut
along_x spec = record { whole = spec.width; parts = spec.nx }

abbrev pub along_y : RoomSpec → Cut
along_y spec = record { whole = spec.depth; parts = spec.ny }

abbrev pub along_z : RoomSpec → Cut
along_z spec = record { whole = spec.height; parts = spec.nz }

-- the axis along which a surface's patches follow one another in a row
abbrev pub across : RoomSpec → Surface → Cut
across spec Floor = along_x spec
across spec Ceiling = along_x spec
across spec Left = along_y spec
across spec Right = along_y spec
across spec Front = along_x spec
across spec Back = along_x spec

-- the axis along which a surface's rows follow one another
abbrev pub upward : RoomSpec → Surface → Cut
upward spec Floor = along_y spec
upward spec Ceiling = along_y spec
upward spec Left = along_z spec
upward spec Right = along_z spec
upward spec Front = along_z spec
upward spec Back = along_z spec

-- the place of a surface that has these coordinates along its two axes
abbrev pub place_on : RoomSpec → Surface → ℕ → ℕ → List ℤ
place_on spec Floor u v = pos u ∷ pos v ∷ pos 0 ∷ []
place_on spec Ceiling u v = pos u ∷ pos v ∷ pos (2 * spec.height) ∷ []
place_on spec Left u v = pos 0 ∷ pos u ∷ pos v ∷ []
place_on spec Right u v = pos (2 * spec.width) ∷ pos u ∷ pos v ∷ []
place_on spec Front u v = pos u ∷ pos 0 ∷ pos v ∷ []
place_on spec Back u v = pos u ∷ pos (2 * spec.depth) ∷ pos v ∷ []

-- the axis that a surface's normal follows: 0 is x, 1 is y, 2 is z
abbrev pub axis_of : Surface → ℕ
axis_of Floor = 2
axis_of Ceiling = 2
axis_of Left = 0
axis_of Right = 0
axis_of Front = 1
axis_of Back = 1

-- whether the normal that points into the room goes to greater coordinates
abbrev pub rises : Surface → Bool
rises Floor = true
rises Ceiling = false
rises Left = true
rises Right = false
rises Front = true
rises Back = false

-- a surface's patch at a column of a row
unfoldable pub patch_at : Room → Surface → ℕ → ℕ → Patch
patch_at room surface column row = record {
  centre = place_on room.spec surface (middle (across room.spec surface) column) (middle (upward room.spec surface) row);
  axis = axis_of surface;
  rising = rises surface;
  area = part (across room.spec surface) column * part (upward room.spec surface) row;
  reflectance = reflectance_at room surface (middle (across room.spec surface) column) (middle (upward room.spec surface) row);
}

-- one row of a surface
unfoldable pub patch_row : Room → Surface → ℕ → List Patch
patch_row room surface row = map (λ column. patch_at room surface column row) (range_with_len 0 (across room.spec surface).parts)

-- a surface, row by row
unfoldable pub patches_of : Room → Surface → List Patch
patches_of room surface = flat_map (patch_row room surface) (range_with_len 0 (upward room.spec surface).parts)

-- all patches, surface by surface
unfoldable pub patches : Room → List Patch
patches room = flat_map (patches_of room) surfaces

-- how far a place lies before a patch's plane, along the normal that points into the room; negative behind the plane
unfoldable pub distance_before : Patch → List ℤ → ℤ
distance_before patch place =
    if patch.rising
    then coordinate place patch.axis -ℤ coordinate patch.centre patch.axis
    else coordinate patch.centre patch.axis -ℤ coordinate place patch.axis

-- a distance where it is above zero, and else 0
abbrev pub above_zero : ℤ → ℕ
above_zero (pos distance) = distance
above_zero (negsuc behind) = 0

-- how far a place lies in front of a patch: 0 in its plane and behind it
unfoldable pub in_front : Patch → List ℤ → ℕ
in_front patch place = above_zero (distance_before patch place)

-- what each patch is known to be
pub record IsPatch (patch : Patch) : Type 0 where
  pub centre : IsPlace patch.centre
  pub axis : patch.axis ≤ 2
  pub limited : patch.area ≤ 10 ^ 10
  pub reflectance : patch.reflectance ≤ 950
