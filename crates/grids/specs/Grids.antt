-- Grids of points on a level rectangle of a room. How points are laid is this project's own rule.
use Rattle.std.specs.Prelude.{ℕ, ◌+◌, ◌-◌, ◌*◌, ◌/◌, ◌%◌, ℤ, pos, List, [], ◌∷◌, map}
use Rattle.std.specs.List.{range_with_len}
use Rattle.compliance.specs.declared.checks.CheckSpec.{CheckSpec}
use Rattle.room_patches.specs.declared.spec.RoomSpec.{RoomSpec}
use Rattle.grids.specs.declared.spec.GridSpec.{GridSpec}

-- the grid that a check asks for in a room
abbrev pub grid_of : RoomSpec → CheckSpec → GridSpec
grid_of room check = record {
  room = room;
  x0 = check.x0;
  x1 = check.x1;
  y0 = check.y0;
  y1 = check.y1;
  z = check.z;
  px = check.px;
  py = check.py;
}

-- how many points a grid has
abbrev pub count : GridSpec → ℕ
count grid = grid.px * grid.py

-- the middle of cell k of a stretch in millimetres that is cut into equal cells: in half-millimetres, cut
abbrev pub middle_of_cell : ℕ → ℕ → ℕ → ℕ → ℕ
middle_of_cell from to cells k = 2 * from + (2 * k + 1) * (to - from) / cells

-- point g: the middle of a cell of the rectangle; the cells follow one another along x first
unfoldable pub point_at : GridSpec → ℕ → List ℤ
point_at grid g = pos (middle_of_cell grid.x0 grid.x1 grid.px (g % grid.px)) ∷ pos (middle_of_cell grid.y0 grid.y1 grid.py (g / grid.px)) ∷ pos (2 * grid.z) ∷ []

-- all points, in order
abbrev pub points : GridSpec → List (List ℤ)
points grid = map (point_at grid) (range_with_len 0 (count grid))
