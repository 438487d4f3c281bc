-- The interval lines behind a ledger's text. The format is this project's own.
use Rattle.std.specs.Prelude.{ℕ, ◌++◌, List, length, slice_index_or, codes}
use Rattle.std.specs.Fmt.{decimal}
use Rattle.std.specs.List.{flat_map, range_with_len}

-- the line of patch j: both ends, in nanolumens
abbrev pub interval_line : List (ℕ × ℕ) → ℕ → List ℕ
interval_line ends j =
    codes "interval " ++ decimal j ++ codes " " ++ decimal (slice_index_or ends j (0, 0)).0 ++ codes " " ++ decimal (slice_index_or ends j (0, 0)).1 ++ codes "\n"

-- a line for each patch
abbrev pub interval_lines : List (ℕ × ℕ) → List ℕ
interval_lines ends = flat_map (interval_line ends) (range_with_len 0 (length ends))
