-- Where the readers of lines, of tokens and of words stand in their text. No contract of a public call speaks of it: it is
-- what the readers keep from one call to the next.
use Rattle.std.specs.Prelude.{◌≡◌, ℕ, ◌+◌, ◌<◌, ◌≤◌, ◌^◌, true, false, Option, Some, None, List, [], ◌∷◌, length, drop, slice_index}
use Rattle.std.specs.Borrow.{Bor}
use Rattle.lux_lines.specs.Places.{line_number}
use Rattle.lux_lines.specs.Lines.{starts_line, lines_from, lines}
use Rattle.lux_lines.specs.Tokens.{is_separator, token_line, tokens_from, tokens}
use Rattle.lux_lines.specs.Words.{words}

-- at a place, after so many lines of the text
pub record IsAtLine (text : List ℕ) (place read : ℕ) : Type 0 where
  pub fits : length text < 2 ^ 31
  pub within : place ≤ length text
  pub few : read ≤ place
  pub left : drop read (lines text) ≡ lines_from text place
  pub counted : place < length text → read + 1 ≡ line_number text place
  pub at_start : place < length text → starts_line text place ≡ true

-- at a place on a line, and inside no token
pub record IsBetweenTokens (first : ℕ) (text : List ℕ) (place number : ℕ) : Type 0 where
  pub within : place ≤ length text
  pub counted : number ≡ token_line first text place
  pub between : place < length text → is_separator (slice_index text place) ≡ false → is_separator (slice_index (32 ∷ text) place) ≡ true

-- there, after so many tokens of the text
pub record IsAtToken (first : ℕ) (text : List ℕ) (place number read : ℕ) : Type 0 where
  pub fits : length text < 2 ^ 31
  pub lines_fit : first ≤ 2 ^ 31
  pub few : read ≤ place
  pub counted_tokens : read ≤ length (tokens first text)
  pub left : drop read (tokens first text) ≡ tokens_from first text place
  pub at_place : IsBetweenTokens first text place number

-- the words that are still to come: those of the rest of a line, or none behind the last
abbrev pub words_left : Option (Bor (List ℕ)) → List (List ℕ)
words_left None = []
words_left (Some rest) = words rest.now
