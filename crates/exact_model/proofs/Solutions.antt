-- What holds of the solutions of a valid system.
use Rattle.std.proofs.Common.{◌≡◌, ℕ, zero, suc, ◌+◌, ◌*◌, ◌<◌, ◌≤◌, refl, ap, ◌∙◌, arith, ℤ, pos, ◌+ℤ◌, ◌*ℤ◌}
use Rattle.std.proofs.lemmas.Int.{ints}
use borrow.Author.Differences.{up}
use Rattle.flux_system.specs.Sums.{sum_below}
use Rattle.flux_system.specs.System.{FluxSystem, scale, patches, coefficient, keep}
use Rattle.flux_system.specs.Validity.{IsSystem}
use Rattle.flux_system.proofs.Sums.{sum-scale}
use Rattle.flux_system.proofs.Keeping.{passed_part-lt}
use Rattle.exact_model.specs.Solution.{sum_signed, Solves}
use Rattle.exact_model.specs.Laws.{FluxIsNowhereNegative, PatchesKeepTheSource}
use Rattle.exact_model.proofs.Signed.{is_pos}
use Rattle.exact_model.proofs.Rows.{row, kept_is_source, no_debt, natural}

pub rows_below : (s : FluxSystem) → IsSystem s → (i : ℕ) → i < patches s → row (patches s) (coefficient s) i < scale
rows_below s valid i h = let lt = passed_part-lt s valid i h in omega arith

-- a solution in natural numbers, and what follows from its equation
pub record IsNatural (s : FluxSystem) (source : ℕ → ℕ) (num : ℕ → ℤ) (den : ℕ) (m : ℕ → ℕ) : Type 0 where
  -- these are the solution's numbers
  pub same : (j : ℕ) → j < patches s → num j ≡ pos (m j)
  -- the equation
  pub equation : (j : ℕ) → j < patches s → scale * m j ≡ den * source j + sum_below (patches s) (λ i. coefficient s i j * m i)
  -- what all keep is what all sources give
  pub kept : sum_below (patches s) (λ i. m i * keep s i) ≡ den * sum_below (patches s) source
  -- a patch has at least what its own source gives
  pub own : (j : ℕ) → j < patches s → den * source j ≤ scale * m j

module _ (s : FluxSystem) (valid : IsSystem s) (source : ℕ → ℕ) (num : ℕ → ℤ) (den : ℕ) (solves : Solves s source num den) where
  pub never_negative : (j : ℕ) → j < patches s → num j ≡ pos (up (num j))
  never_negative j h = is_pos (num j) (no_debt (patches s) (coefficient s) scale (rows_below s valid) (λ k. den * source k) num solves.equation j h)

  pub in_naturals : (j : ℕ) → j < patches s → scale * up (num j) ≡ den * source j + sum_below (patches s) (λ i. coefficient s i j * up (num i))
  in_naturals = natural (patches s) (coefficient s) scale (rows_below s valid) (λ k. den * source k) num solves.equation

  -- what all keep is what all sources give
  pub kept : sum_below (patches s) (λ i. up (num i) * keep s i) ≡ den * sum_below (patches s) source
  kept =
      kept_is_source (patches s) (coefficient s) scale (rows_below s valid) (λ k. den * source k) (λ i. up (num i)) in_naturals
      ∙ sum-scale (patches s) den source

  -- all of it at once
  pub natural_of : IsNatural s source num den (λ j. up (num j))
  natural_of = record {
    same = never_negative;
    equation = in_naturals;
    kept = kept;
    own = λ j h. let e = in_naturals j h in omega arith;
  }

  -- the signed sum of products is that of the naturals
  signed_kept : (m : ℕ) → m ≤ patches s → sum_signed m (λ i. num i *ℤ pos (keep s i)) ≡ pos (sum_below m (λ i. up (num i) * keep s i))
  signed_kept zero h = refl
  signed_kept (suc m) h = λ k. signed_kept m (omega arith) k +ℤ (never_negative m (omega arith) k *ℤ pos (keep s m))

  pub keeps_source : sum_signed (patches s) (λ i. num i *ℤ pos (keep s i)) ≡ pos (den * sum_below (patches s) source)
  keeps_source = signed_kept (patches s) (omega arith) ∙ ap pos kept

pub not_negative : FluxIsNowhereNegative
not_negative s source num den valid solves j h = let e = never_negative s valid source num den solves j h in omega (arith, ints)

pub keep_all : PatchesKeepTheSource
keep_all s source num den valid solves = keeps_source s valid source num den solves
