-- A ledger of which nothing was taken yet is balanced.
use Rattle.std.proofs.Common.{◌≡◌, ℕ, ◌*◌, List, length, get_or, replicate, ap, ◌∙◌, arith}
use Rattle.std.proofs.lemmas.List.{length-replicate, get_or-replicate}
use Rattle.flux_system.specs.System.{FluxSystem, patches, coefficient}
use Rattle.flux_system.proofs.Sums.{sum-same, sum-zero}
use Rattle.flux_ledger.specs.Balance.{IsBalanced, passed_to}
use Rattle.shot_core.specs.Settling.{untouched_ledger}

pub nothing_passed : (s : FluxSystem) (j : ℕ) → passed_to s (replicate (patches s) 0) j ≡ 0
nothing_passed s j =
    sum-same (patches s) _ (λ _. 0) (λ i h. let none = get_or-replicate (patches s) i 0 0 h in ap (λ (x : ℕ). x * coefficient s i j) none ∙ omega arith) ∙ sum-zero (patches s)

module _ (s : FluxSystem) (direct : List ℕ) (long : length direct ≡ patches s) where
  pub untouched_balanced : IsBalanced s (untouched_ledger s direct)
  untouched_balanced = record {
    lengths = record { of_direct = long; of_taken = length-replicate (patches s) 0; of_residual = long; of_err = length-replicate (patches s) 0 };
    balance = λ j h. let none : get_or (untouched_ledger s direct).taken j 0 ≡ 0 = get_or-replicate (patches s) j 0 0 h in let passed : passed_to s (untouched_ledger s direct).taken j ≡ 0 = nothing_passed s j in omega arith;
    fractions = λ j h. let none : get_or (untouched_ledger s direct).err j 0 ≡ 0 = get_or-replicate (patches s) j 0 0 h in omega arith;
    few_wins = omega arith;
  }
