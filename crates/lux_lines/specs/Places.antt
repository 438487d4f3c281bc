-- A piece of a text with its place.
use Rattle.std.specs.Prelude.{ℕ, ◌+◌, ◌-◌, ◌==◌, Bool, List, filter, count_by, take}
use Rattle.std.specs.List.{range_with_len}

-- a piece of a text: the number of its line, where it starts, and its bytes
pub record Piece : Type 0 where
  pub number : ℕ
  pub start : ℕ
  pub text : List ℕ

abbrev pub is_newline : ℕ → Bool
is_newline byte = byte == 10

-- the number of the line that a place is on, counted from 1: one more for each LF before the place
abbrev pub line_number : List ℕ → ℕ → ℕ
line_number text place = 1 + count_by is_newline (take place text)

-- the places from one on, and below an end, that pass a test
abbrev pub places_from : (ℕ → Bool) → ℕ → ℕ → List ℕ
places_from test end place = filter test (range_with_len place (end - place))
