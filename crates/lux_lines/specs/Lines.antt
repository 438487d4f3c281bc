-- The lines of a text. A line ends by LF; a CR directly before LF, or as the text's last byte, is no part of it.
-- What stands after the last LF is a line where it isn't empty. These are this project's own rules.
use Rattle.std.specs.Prelude.{ℕ, ◌-◌, ◌==◌, Bool, if◌then◌else◌, List, [], ◌∷◌, map, take, drop, length, slice_index, slice_get, option_map, unwrap_or}
use Rattle.std.specs.List.{before_first}
use Rattle.lux_lines.specs.Places.{Piece, is_newline, line_number, places_from}

-- a line starts where the byte before is LF, or where no byte is before
unfoldable pub starts_line : List ℕ → ℕ → Bool
starts_line text place = is_newline (slice_index (10 ∷ text) place)

abbrev pub without_return : List ℕ → List ℕ
without_return line = if slice_index line (length line - 1) == 13 then take (length line - 1) line else line

-- the line that starts at a place: the bytes up to the next LF, without a CR at their end
unfoldable pub line_at : List ℕ → ℕ → Piece
line_at text place = record { number = line_number text place; start = place; text = without_return (before_first is_newline (drop place text)) }

-- the lines that start at a place or later
unfoldable pub lines_from : List ℕ → ℕ → List Piece
lines_from text place = map (line_at text) (places_from (starts_line text) (length text) place)

-- the lines of a text
unfoldable pub lines : List ℕ → List Piece
lines text = lines_from text 0

-- the bytes of line k, counted from 0, or no bytes where there is no such line
unfoldable pub line_text : List ℕ → ℕ → List ℕ
line_text text k = unwrap_or (option_map (λ (line : Piece). line.text) (slice_get (lines text) k)) []
