-- Generated projects: for each number a room with a level grid of luminaires. The choices are this project's own; the numbers
-- by which they are made are those of the sample generator in the C standard.
use Rattle.std.specs.Prelude.{ℕ, zero, suc, ◌+◌, ◌-◌, ◌*◌, ◌/◌, ◌%◌, ◌^◌, List, [], ◌∷◌, map, codes}
use Rattle.std.specs.List.{range_with_len, flat_map}
use Rattle.photo_web.specs.Web.{PhotometricWeb}
use Rattle.photo_web.specs.declared.photometry.SymKind.TheVariants.{Axis}
use Rattle.symmetry.specs.Images.{expansion}
use Rattle.room_patches.specs.declared.spec.RoomSpec.{RoomSpec}
use Rattle.fixtures.specs.declared.spec.FixtureSpec.{FixtureSpec}
use Rattle.project_file.specs.Projects.{Project}
use Rattle.workload.specs.declared.layouts.Layout.{Layout}

-- the state after one that is given
unfoldable pub next_state : ℕ → ℕ
next_state x = (x * 1103515245 + 12345) % 2 ^ 31

-- the state after so many steps from a number
abbrev pub state : ℕ → ℕ → ℕ
state number zero = number
state number (suc k) = next_state (state number k)

-- draw k from a number, where draws are counted from 1: the state without its low 16 bits
abbrev pub draw : ℕ → ℕ → ℕ
draw number k = state number k / 65536

-- the room of a number: lengths in millimetres, each cut into parts of half a metre, and reflectances in per mille, one
-- for all walls
unfoldable pub generated_room : ℕ → RoomSpec
generated_room number =
    let width = 4000 + 500 * (draw number 1 % 9) in
    let depth = 3000 + 500 * (draw number 2 % 7) in
    let height = 2500 + 250 * (draw number 3 % 5) in
    let wall = 400 + 50 * (draw number 6 % 5) in
    record {
      width = width;
      depth = depth;
      height = height;
      nx = width / 500;
      ny = depth / 500;
      nz = height / 500;
      floor = 100 + 50 * (draw number 4 % 5);
      ceiling = 600 + 50 * (draw number 5 % 5);
      walls = wall ∷ wall ∷ wall ∷ wall ∷ [];
    }

-- the layout of a number: its room, with 1 to 4 columns and 1 to 3 rows of luminaires
abbrev pub generated_layout : ℕ → Layout
generated_layout number = record {
  room = generated_room number;
  columns = 1 + draw number 7 % 4;
  rows = 1 + draw number 8 % 3;
}

-- the luminaire of a column and a row: over the middle of its share of the floor, 200 mm below the ceiling, at its full level
unfoldable pub luminaire_at : Layout → ℕ → ℕ → FixtureSpec
luminaire_at layout column row = record {
  web = 0;
  x = (2 * column + 1) * layout.room.width / (2 * layout.columns);
  y = (2 * row + 1) * layout.room.depth / (2 * layout.rows);
  z = layout.room.height - 200;
  rotation = 0;
  level = 1000;
}

-- one row of luminaires, along the width
unfoldable pub luminaire_row : Layout → ℕ → List FixtureSpec
luminaire_row layout row = map (λ column. luminaire_at layout column row) (range_with_len 0 layout.columns)

-- all luminaires, row by row
unfoldable pub luminaires : Layout → List FixtureSpec
luminaires layout = flat_map (luminaire_row layout) (range_with_len 0 layout.rows)

-- the web of all luminaires: one plane for all, 1000 candela times the cosine of gamma
unfoldable pub generated_web : PhotometricWeb
generated_web = expansion Axis (0 ∷ []) (0 ∷ 30000 ∷ 60000 ∷ 90000 ∷ []) (1000000000 ∷ 866025404 ∷ 500000000 ∷ 0 ∷ [])

-- the project of a number: its one file has a name alone, since it is never read
unfoldable pub generated_project : ℕ → Project
generated_project number = record {
  room = generated_room number;
  regions = [];
  threshold = 10000000;
  files = codes "gen" ∷ [];
  fixtures = luminaires (generated_layout number);
  checks = [];
}
