-- What makes a room valid. The limits are this project's own.
use Rattle.std.specs.Prelude.{◌≡◌, ℕ, ◌≤◌, ◌&&◌, Bool, true, false, not, nat_lt, nat_le, List, [], ◌∷◌, ◌++◌, length, All, Option, Some, None, slice_get}
use Rattle.std.specs.List.{list_all, position}
use Rattle.std.specs.Option.{option_map}
use Rattle.duties.specs.Duties.{Duty, unless}
use Rattle.room_patches.specs.declared.spec.RoomSpec.{RoomSpec}
use Rattle.room_patches.specs.declared.region.Region.{Region}
use Rattle.room_patches.specs.declared.surface.Surface.{Surface}
use Rattle.room_patches.specs.declared.faults.RoomFault.{RoomFault}
use Rattle.room_patches.specs.declared.faults.RoomFault.TheVariants.{Size, Counts, Patches, Reflectance, Region as OfRegion}
use Rattle.room_patches.specs.Cuts.{IsCut}
use Rattle.room_patches.specs.Rooms.{Room, plain_room}
use Rattle.room_patches.specs.Surfaces.{surfaces}
use Rattle.room_patches.specs.Patches.{along_x, along_y, along_z, across, upward, patches}

-- lengths, parts, reflectances and the number of patches are within their limits
pub record IsRoom (spec : RoomSpec) : Type 0 where
  pub width : IsCut (along_x spec)
  pub depth : IsCut (along_y spec)
  pub height : IsCut (along_z spec)
  pub wide : 500 ≤ spec.width
  pub deep : 500 ≤ spec.depth
  pub high : 500 ≤ spec.height
  pub few : length (patches (plain_room spec)) ≤ 4096
  pub floor : spec.floor ≤ 950
  pub ceiling : spec.ceiling ≤ 950
  pub walls : All (λ wall. wall ≤ 950) spec.walls

-- each length is 500 to 100,000 millimetres
abbrev pub has_size : RoomSpec → Bool
has_size spec = is_length spec.width && is_length spec.depth && is_length spec.height
  where
    is_length : ℕ → Bool
    is_length millimetres = nat_le 500 millimetres && nat_le millimetres 100000

-- each length is cut into 1 to 64 parts
abbrev pub has_counts : RoomSpec → Bool
has_counts spec = is_count spec.nx && is_count spec.ny && is_count spec.nz
  where
    is_count : ℕ → Bool
    is_count parts = nat_le 1 parts && nat_le parts 64

-- each reflectance is at most 950 per mille
abbrev pub has_reflectances : RoomSpec → Bool
has_reflectances spec = nat_le spec.floor 950 && nat_le spec.ceiling 950 && list_all (λ wall. nat_le wall 950) spec.walls

-- a region is not empty, and reaches no farther than its surface
abbrev pub fits_on : RoomSpec → Surface → Region → Bool
fits_on spec surface region = is_stretch region.u0 region.u1 (across spec surface).whole && is_stretch region.v0 region.v1 (upward spec surface).whole
  where
    is_stretch : ℕ → ℕ → ℕ → Bool
    is_stretch from to whole = nat_lt from to && nat_le to whole

-- a region lies on a surface of the room, which its number names, and its reflectance is within its limit
abbrev pub is_region : RoomSpec → Region → Bool
is_region spec region = lies_on (slice_get surfaces region.surface)
  where
    lies_on : Option Surface → Bool
    lies_on None = false
    lies_on (Some surface) = nat_le region.reflectance 950 && fits_on spec surface region

-- what each region of a room is known to be
abbrev pub AreRegions : RoomSpec → List Region → Type 0
AreRegions spec regions = All (λ region. is_region spec region ≡ true) regions

-- what makes a room valid but for its regions, as tests in their order, each with its refusal
unfoldable pub spec_duties : RoomSpec → List (Duty RoomFault)
spec_duties spec =
    unless (has_size spec) Size
    ∷ unless (has_counts spec) Counts
    ∷ unless (nat_le (length (patches (plain_room spec))) 4096) (Patches (length (patches (plain_room spec))))
    ∷ unless (has_reflectances spec) Reflectance
    ∷ []

-- each region is one; else the first that isn't is named
unfoldable pub region_duty : RoomSpec → List Region → Duty RoomFault
region_duty spec regions = option_map OfRegion (position (λ region. not (is_region spec region)) regions)

-- what makes a room valid: the regions come last
unfoldable pub room_duties : Room → List (Duty RoomFault)
room_duties room = spec_duties room.spec ++ region_duty room.spec room.regions ∷ []
