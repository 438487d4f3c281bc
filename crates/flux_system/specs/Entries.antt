-- The shares of a flux system without those that are 0.
use Rattle.std.specs.Prelude.{ℕ, zero, suc, ◌==◌, if◌then◌else◌, List, [], ◌∷◌, ◌++◌, map}
use Rattle.std.specs.List.{range_with_len}
use Rattle.flux_system.specs.declared.entries.Entry.{Entry}
use Rattle.flux_system.specs.System.{FluxSystem, patches, share}

-- a share with the patch at its other end, or nothing where it is 0
abbrev pub entry_of : ℕ → ℕ → List Entry
entry_of patch share = if share == 0 then [] else record { patch = patch; share = share } ∷ []

-- the shares f of the patches below n that aren't 0, in order, each with its patch
abbrev pub entries_below : ℕ → (ℕ → ℕ) → List Entry
entries_below zero f = []
entries_below (suc n) f = entries_below n f ++ entry_of n (f n)

-- the patches that flux from patch i falls on, in order, each with its share of it
unfoldable pub row_entries : FluxSystem → ℕ → List Entry
row_entries s i = entries_below (patches s) (share s i)

-- the patches that flux falls from on patch j, in order, each with the share of its flux that does
unfoldable pub column_entries : FluxSystem → ℕ → List Entry
column_entries s j = entries_below (patches s) (λ i. share s i j)

-- all rows, and all columns
abbrev pub all_rows : FluxSystem → List (List Entry)
all_rows s = map (row_entries s) (range_with_len 0 (patches s))

abbrev pub all_columns : FluxSystem → List (List Entry)
all_columns s = map (column_entries s) (range_with_len 0 (patches s))
