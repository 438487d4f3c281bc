-- The words of a line: its parts between blanks, where one blank separates two words. Two blanks have an empty word between them.
use Rattle.std.specs.Prelude.{ℕ, ◌==◌, Bool, List, [], slice_index_or}
use Rattle.std.specs.List.{slice_split}

abbrev pub is_blank : ℕ → Bool
is_blank byte = byte == 32

abbrev pub words : List ℕ → List (List ℕ)
words line = slice_split is_blank line

-- the word at a place, or an empty one
abbrev pub word_at : List (List ℕ) → ℕ → List ℕ
word_at all k = slice_index_or all k []
