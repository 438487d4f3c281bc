-- A search in a list without zeros finds the share that it has for a patch.
use Rattle.std.proofs.Common.{◌≡◌, ℕ, ◌<◌, ◌≤◌, Ok, Err, length, get_or, sym, ap, ◌∙◌, arith, ⊎_elim}
use Rattle.std.specs.List.Sorted.{IsBinarySearchResult, IsNonDecreasingBy}
use Rattle.std.specs.Ordering.{nat_cmp, ordering_index}
use Rattle.std.proofs.lemmas.Bool.{cases_lt}
use Rattle.std.proofs.lemmas.Cmp.{ranked}
use Rattle.std.proofs.lemmas.Bool.Decides.{nat_tests}
use mathlib.Core.Logic.{dite}
use native.Mathlib.Decide.{ℕ_discrete}
use Rattle.flux_system.specs.declared.entries.Entry.{Entry}
use Rattle.flux_system.specs.Entries.{entries_below}
use Rattle.flux_system.proofs.WithoutZeros.{entry-at, entry-there, entries-rise}

higher : (a b j : ℕ) → a ≤ b → ordering_index (nat_cmp a j) ≤ ordering_index (nat_cmp b j)
higher a b j le = grind (arith, nat_tests)

module _ (n : ℕ) (f : ℕ → ℕ) (j : ℕ) (inside : j < n) where
  no_falls : (a b : ℕ) (d : Entry) → a ≤ b → b < length (entries_below n f) → (get_or (entries_below n f) a d).patch ≤ (get_or (entries_below n f) b d).patch
  no_falls a b d le within = dite (ℕ_discrete a b) (λ e. let same = ap (λ (k : ℕ). (get_or (entries_below n f) k d).patch) e in omega arith) (λ ne. let lt = entries-rise n f a b d (omega arith) within in omega arith)

  comparisons_rise : IsNonDecreasingBy (λ entry. ordering_index (nat_cmp entry.patch j)) (entries_below n f)
  comparisons_rise = λ a b d le within. higher _ _ j (no_falls a b d le within)

  pub found : (place : ℕ) → place < length (entries_below n f) → IsBinarySearchResult (λ entry. nat_cmp entry.patch j) (entries_below n f) (Ok place) → (d : Entry) → (get_or (entries_below n f) place d).share ≡ f j
  found place within equal d = (entry-at n f place d within).is ∙ ap f (ranked _ j _ (sym (equal d)))

  pub absent : (gap : ℕ) → IsBinarySearchResult (λ entry. nat_cmp entry.patch j) (entries_below n f) (Err gap) → 0 ≡ f j
  absent gap parted = dite (ℕ_discrete (f j) 0) sym (λ ne. absurd (there (entry-there n f j inside (omega arith))))
    where
      d : Entry
      d = record { patch = 0; share = 0 }

      there : (k : ℕ) × (k < length (entries_below n f)) × ((d : Entry) → (get_or (entries_below n f) k d).patch ≡ j) → ⊥
      there t =
          let is = t.2 d in
          ⊎_elim
          (λ (before : t.0 < gap). let less = ranked _ j _ (sym ((parted comparisons_rise).0 t.0 d (omega arith) before)) in omega arith)
          (λ (after : gap ≤ t.0). let more = ranked _ j _ (sym ((parted comparisons_rise).1 t.0 d after t.1)) in omega arith)
          (cases_lt t.0 gap)
