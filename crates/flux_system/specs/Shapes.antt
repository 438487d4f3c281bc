-- Shapes that only the code stands on. No public clause cites these.
use Rattle.std.specs.Prelude.{◌≡◌, ℕ, ◌==◌, if◌then◌else◌, List, map}
use Rattle.std.specs.List.{sum_by, flat_map, range_with_len}
use Rattle.flux_system.specs.declared.entries.Entry.{Entry}
use Rattle.flux_system.specs.System.{FluxSystem, kept_parts, least_keep}
use Rattle.flux_system.specs.declared.lists.Side.{Side}
use Rattle.flux_system.specs.declared.lists.Side.TheVariants.{Rows, Columns}
use Rattle.flux_system.specs.Entries.{row_entries, column_entries, all_rows, all_columns}
use Rattle.flux_system.specs.Validity.{IsSystem}

-- the numbers of a system whose threshold is not asked for
abbrev pub system_without_threshold : List ℕ → List ℕ → FluxSystem
system_without_threshold reflectance shares = record { threshold = 0; reflectance = reflectance; shares = shares }

-- a row or a column
abbrev pub list_of : Side → FluxSystem → ℕ → List Entry
list_of Rows s i = row_entries s i
list_of Columns s j = column_entries s j

-- the share that some entries have for a patch
abbrev pub share_in : List Entry → ℕ → ℕ
share_in entries patch = sum_by (λ entry. if entry.patch == patch then entry.share else 0) entries

-- the shares of so many patches that rows without zeros stand for
unfoldable pub shares_in_rows : ℕ → List (List Entry) → List ℕ
shares_in_rows n rows = flat_map (λ entries. map (share_in entries) (range_with_len 0 n)) rows

-- a valid system, beside its lists without zeros, what each patch keeps and the least of that
pub record IsSystemWithLists (s : FluxSystem) (rows columns : List (List Entry)) (kept : List ℕ) (least : ℕ) : Type 0 where
  pub valid : IsSystem s
  pub of_rows : rows ≡ all_rows s
  pub of_columns : columns ≡ all_columns s
  pub of_kept : kept ≡ kept_parts s
  pub of_least : least ≡ least_keep s
