-- The tokens of a text: its longest runs of bytes that are no separators. The separators are this project's own.
use Rattle.std.specs.Prelude.{ℕ, ◌+◌, ◌==◌, ◌&&◌, ◌||◌, not, Bool, List, ◌∷◌, map, take, drop, length, slice_index, count_by}
use Rattle.std.specs.List.{before_first}
use Rattle.lux_lines.specs.Places.{Piece, is_newline, places_from}

-- blank, tab, comma, CR and LF
abbrev pub is_separator : ℕ → Bool
is_separator byte = byte == 32 || byte == 9 || byte == 44 || byte == 13 || byte == 10

-- a token starts at a byte that is no separator, where the byte before is one, or where no byte is before
unfoldable pub starts_token : List ℕ → ℕ → Bool
starts_token text place = not (is_separator (slice_index text place)) && is_separator (slice_index (32 ∷ text) place)

-- the number of the line that a place is on, where the text begins on the line `first`: one more for each LF before the place
abbrev pub token_line : ℕ → List ℕ → ℕ → ℕ
token_line first text place = first + count_by is_newline (take place text)

-- the token that starts at a place: the bytes up to the next separator
unfoldable pub token_at : ℕ → List ℕ → ℕ → Piece
token_at first text place = record { number = token_line first text place; start = place; text = before_first is_separator (drop place text) }

-- the tokens that start at a place or later
unfoldable pub tokens_from : ℕ → List ℕ → ℕ → List Piece
tokens_from first text place = map (token_at first text) (places_from (starts_token text) (length text) place)

-- the tokens of a text that begins on the line `first`
unfoldable pub tokens : ℕ → List ℕ → List Piece
tokens first text = tokens_from first text 0
