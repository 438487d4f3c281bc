-- Places in a room, in half-millimetres: a coordinate along x, one along y and one along z.
use Rattle.std.specs.Prelude.{◌≡◌, ℕ, ◌+◌, ◌*◌, ℤ, pos, ◌-ℤ◌, ◌≤ℤ◌, List, length, slice_index_or, unsigned_abs}

-- the coordinate of a place along an axis: 0 is x, 1 is y, 2 is z
abbrev pub coordinate : List ℤ → ℕ → ℤ
coordinate place axis = slice_index_or place axis (pos 0)

-- 0 to 200,000 half-millimetres
pub record IsCoordinate (z : ℤ) : Type 0 where
  pub low : pos 0 ≤ℤ z
  pub high : z ≤ℤ pos 200000

-- three coordinates, each of 0 to 200,000 half-millimetres
pub record IsPlace (place : List ℤ) : Type 0 where
  pub three : length place ≡ 3
  pub x : IsCoordinate (coordinate place 0)
  pub y : IsCoordinate (coordinate place 1)
  pub z : IsCoordinate (coordinate place 2)

-- how far two places lie apart along an axis
abbrev pub gap : List ℤ → List ℤ → ℕ → ℕ
gap from to axis = unsigned_abs (coordinate to axis -ℤ coordinate from axis)

-- the square of the distance of two places (Pythagoras)
unfoldable pub squared_distance : List ℤ → List ℤ → ℕ
squared_distance from to = gap from to 0 * gap from to 0 + gap from to 1 * gap from to 1 + gap from to 2 * gap from to 2
