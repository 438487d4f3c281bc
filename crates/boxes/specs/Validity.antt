-- What makes boxes the furniture of a room. The limits are this project's own.
use Rattle.std.specs.Prelude.{ℕ, ◌<◌, ◌≤◌, ◌&&◌, Bool, nat_lt, nat_le, List, [], ◌∷◌, ◌++◌, length}
use Rattle.std.specs.List.{flat_map, enumerate_from}
use Rattle.duties.specs.Duties.{Duty, unless}
use Rattle.room_patches.specs.declared.box_spec.BoxSpec.{BoxSpec}
use Rattle.room_patches.specs.declared.spec.RoomSpec.{RoomSpec}
use Rattle.boxes.specs.declared.faults.BoxFault.{BoxFault}
use Rattle.boxes.specs.declared.faults.BoxFault.TheVariants.{Bounds, Counts, Reflectance, Patches}
use Rattle.boxes.specs.FurnishedRooms.{FurnishedRoom, patches}

-- a stretch of a room's length that isn't empty, and ends no farther than the room
pub record IsStretch (from to whole : ℕ) : Type 0 where
  pub some : from < to
  pub within : to ≤ whole

-- 1 to 64 parts
pub record IsCount (parts : ℕ) : Type 0 where
  pub some : 1 ≤ parts
  pub few : parts ≤ 64

-- a box that lies in a room, and whose counts and reflectance are within their limits
pub record IsBox (room : RoomSpec) (box : BoxSpec) : Type 0 where
  pub x : IsStretch box.x0 box.x1 room.width
  pub y : IsStretch box.y0 box.y1 room.depth
  pub z : IsStretch box.z0 box.z1 room.height
  pub nx : IsCount box.nx
  pub ny : IsCount box.ny
  pub nz : IsCount box.nz
  pub reflectance : box.reflectance ≤ 950

-- along each axis, a box is not empty and ends no farther than the room
abbrev pub has_bounds : RoomSpec → BoxSpec → Bool
has_bounds room box = is_stretch box.x0 box.x1 room.width && is_stretch box.y0 box.y1 room.depth && is_stretch box.z0 box.z1 room.height
  where
    is_stretch : ℕ → ℕ → ℕ → Bool
    is_stretch from to whole = nat_lt from to && nat_le to whole

-- each length is cut into 1 to 64 parts
abbrev pub has_counts : BoxSpec → Bool
has_counts box = is_count box.nx && is_count box.ny && is_count box.nz
  where
    is_count : ℕ → Bool
    is_count parts = nat_le 1 parts && nat_le parts 64

-- the reflectance is at most 950 per mille
abbrev pub has_reflectance : BoxSpec → Bool
has_reflectance box = nat_le box.reflectance 950

-- what one box passes, as tests in their order, each with its refusal, which names its number
unfoldable pub box_duties : RoomSpec → ℕ → BoxSpec → List (Duty BoxFault)
box_duties room at box =
    unless (has_bounds room box) (Bounds at)
    ∷ unless (has_counts box) (Counts at)
    ∷ unless (has_reflectance box) (Reflectance at)
    ∷ []

-- what boxes pass, one after another, which are counted from a number on
unfoldable pub boxes_duties : RoomSpec → ℕ → List BoxSpec → List (Duty BoxFault)
boxes_duties room from boxes = flat_map (λ numbered. box_duties room numbered.0 numbered.1) (enumerate_from from boxes)

-- what furniture passes: the number of all patches comes last
unfoldable pub furniture_duties : FurnishedRoom → List (Duty BoxFault)
furniture_duties furnished =
    boxes_duties furnished.room.spec 0 furnished.boxes
    ++ unless (nat_le (length (patches furnished)) 4096) (Patches (length (patches furnished)))
    ∷ []
