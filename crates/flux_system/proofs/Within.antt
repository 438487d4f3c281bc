-- The entries of a row and of a column are of patches of the system, and each share is a part of the whole.
use Rattle.std.proofs.Common.{◌≡◌, ℕ, ◌<◌, List, sym, subst, arith}
use Rattle.std.specs.List.{All}
use Rattle.flux_system.specs.declared.entries.Entry.{Entry}
use Rattle.flux_system.specs.System.{FluxSystem, patches, share}
use Rattle.flux_system.specs.Entries.{entries_below, row_entries, column_entries}
use Rattle.flux_system.specs.Validity.{IsSystem}
use Rattle.flux_system.proofs.Sums.{le-sum}
use Rattle.flux_system.proofs.WithoutZeros.{entry-at}

entries-inside : (n : ℕ) (f : ℕ → ℕ) → All (λ (e : Entry). e.patch < n) (entries_below n f)
entries-inside n f k d h = (entry-at n f k d h).inside

entries-parts : (n : ℕ) (f : ℕ → ℕ) → ((i : ℕ) → i < n → f i < 1000000000) → All (λ (e : Entry). e.share < 1000000000) (entries_below n f)
entries-parts n f parts k d h = let entry = entry-at n f k d h in let is = entry.is in let part = parts _ entry.inside in omega arith

module _ (s : FluxSystem) (es : List Entry) (i : ℕ) where
  pub row-inside : es ≡ row_entries s i → All (λ (e : Entry). e.patch < patches s) es
  unfolding row_entries
  row-inside is = subst (λ (xs : List Entry). All (λ (e : Entry). e.patch < patches s) xs) (sym is) (entries-inside (patches s) (share s i))

  pub column-inside : es ≡ column_entries s i → All (λ (e : Entry). e.patch < patches s) es
  unfolding column_entries
  column-inside is = subst (λ (xs : List Entry). All (λ (e : Entry). e.patch < patches s) xs) (sym is) (entries-inside (patches s) (λ k. share s k i))

  -- a row sums to less than the whole
  part : IsSystem s → (k j : ℕ) → k < patches s → j < patches s → share s k j < 1000000000
  part valid k j from to = let one = le-sum (patches s) (share s k) j to in let total = valid.rows k from in omega arith

  pub row-parts : IsSystem s → i < patches s → es ≡ row_entries s i → All (λ (e : Entry). e.share < 1000000000) es
  unfolding row_entries
  row-parts valid h is = subst (λ (xs : List Entry). All (λ (e : Entry). e.share < 1000000000) xs) (sym is) (entries-parts (patches s) (share s i) (λ j to. part valid i j h to))

  pub column-parts : IsSystem s → i < patches s → es ≡ column_entries s i → All (λ (e : Entry). e.share < 1000000000) es
  unfolding column_entries
  column-parts valid h is = subst (λ (xs : List Entry). All (λ (e : Entry). e.share < 1000000000) xs) (sym is) (entries-parts (patches s) (λ k. share s k i) (λ k from. part valid k i from h))
