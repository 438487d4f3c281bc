-- The ledger text. The format is this project's own.
use Rattle.std.specs.Prelude.{ℕ, ◌++◌, List, length, slice_index, codes}
use Rattle.std.specs.Fmt.{decimal}
use Rattle.std.specs.List.{flat_map, range_with_len}
use Rattle.flux_ledger.specs.declared.ledger.Ledger.{Ledger}

-- the line of patch j
abbrev pub patch_line : Ledger → ℕ → List ℕ
patch_line l j =
    codes "patch " ++ decimal j ++ codes " direct " ++ decimal (slice_index l.direct j) ++ codes " taken " ++ decimal (slice_index l.taken j)
    ++ codes " residual " ++ decimal (slice_index l.residual j) ++ codes " err " ++ decimal (slice_index l.err j) ++ codes "\n"

-- the lines before those of the patches
abbrev pub head_lines : Ledger → List ℕ
head_lines l =
    codes "lux-ledger 1\npatches " ++ decimal (length l.direct) ++ codes "\nwins " ++ decimal l.wins ++ codes "\nparts " ++ decimal l.parts ++ codes "\n"

-- the whole text: its head, and a line for each patch
abbrev pub ledger_text : Ledger → List ℕ
ledger_text l = head_lines l ++ flat_map (patch_line l) (range_with_len 0 (length l.direct))
