-- What makes a grid valid. The limits are this project's own.
use Rattle.std.specs.Prelude.{◌≡◌, ℕ, ◌<◌, ◌≤◌, ◌&&◌, ℤ, Bool, false, nat_lt, nat_le, List, [], ◌∷◌, All}
use Rattle.std.specs.List.{position}
use Rattle.std.specs.Option.{option_map}
use Rattle.duties.specs.Duties.{Duty, unless, each}
use Rattle.room_patches.specs.declared.patch.Patch.{Patch}
use Rattle.room_patches.specs.Places.{squared_distance}
use Rattle.room_patches.specs.Rooms.{plain_room}
use Rattle.room_patches.specs.Patches.{patches}
use Rattle.room_patches.specs.Validity.{IsRoom}
use Rattle.grids.specs.declared.spec.GridSpec.{GridSpec}
use Rattle.grids.specs.declared.faults.GridFault.{GridFault}
use Rattle.grids.specs.declared.faults.GridFault.TheVariants.{Rectangle, Counts, TooNear}
use Rattle.grids.specs.Grids.{count, point_at}
use Rattle.grids.specs.GridPoint.{is_seen}

-- the rectangle is none that is empty, lies within the plan of the room, and below its ceiling
abbrev pub has_rectangle : GridSpec → Bool
has_rectangle grid = is_stretch grid.x0 grid.x1 grid.room.width && is_stretch grid.y0 grid.y1 grid.room.depth && nat_lt grid.z grid.room.height
  where
    is_stretch : ℕ → ℕ → ℕ → Bool
    is_stretch from to whole = nat_lt from to && nat_le to whole

-- 1 to 64 points stand along each side, and no more than 1,024 in all
abbrev pub has_counts : GridSpec → Bool
has_counts grid = is_count grid.px && is_count grid.py && nat_le (count grid) 1024
  where
    is_count : ℕ → Bool
    is_count many = nat_le 1 many && nat_le many 64

-- a patch that a point sees is less than 200 half-millimetres away
abbrev pub is_too_near : List ℤ → Patch → Bool
is_too_near point patch = is_seen patch point && nat_lt (squared_distance patch.centre point) 40000

-- point g isn't too near to any patch, whatever it reflects; else the first patch is named
unfoldable pub point_duty : GridSpec → ℕ → Duty GridFault
point_duty grid g = option_map (TooNear g) (position (is_too_near (point_at grid g)) (patches (plain_room grid.room)))

-- what makes a grid valid, as tests in their order, each with its refusal
unfoldable pub grid_duties : GridSpec → List (Duty GridFault)
grid_duties grid =
    unless (has_rectangle grid) Rectangle
    ∷ unless (has_counts grid) Counts
    ∷ each (count grid) (point_duty grid)
    ∷ []

-- a grid whose rectangle lies in a valid room, with its counts within their limits
pub record IsLaid (grid : GridSpec) : Type 0 where
  pub room : IsRoom grid.room
  pub wide : grid.x0 < grid.x1
  pub within_width : grid.x1 ≤ grid.room.width
  pub deep : grid.y0 < grid.y1
  pub within_depth : grid.y1 ≤ grid.room.depth
  pub below_ceiling : grid.z < grid.room.height
  pub some_columns : 1 ≤ grid.px
  pub few_columns : grid.px ≤ 64
  pub some_rows : 1 ≤ grid.py
  pub few_rows : grid.py ≤ 64
  pub few : count grid ≤ 1024

-- and no point of it is too near to a patch
pub record IsGrid (grid : GridSpec) : Type 0 where
  pub laid : IsLaid grid
  pub apart : (g : ℕ) → g < count grid → All (λ patch. is_too_near (point_at grid g) patch ≡ false) (patches (plain_room grid.room))
