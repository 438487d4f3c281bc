-- When a ledger of flux is balanced, finished and paid for a flux system. The ledger is this project's own.
use Rattle.std.specs.Prelude.{◌≡◌, ℕ, ◌+◌, ◌*◌, ◌<◌, ◌≤◌, List, length, slice_index, sum}
use Rattle.flux_system.specs.Sums.{sum_below}
use Rattle.flux_system.specs.System.{FluxSystem, scale, patches, coefficient, least_keep}
use Rattle.flux_ledger.specs.declared.ledger.Ledger.{Ledger}

-- what all takes together passed on to patch j, in parts of a nanolumen
abbrev pub passed_to : FluxSystem → List ℕ → ℕ → ℕ
passed_to s taken j = sum_below (patches s) (λ i. slice_index taken i * coefficient s i j)

-- what reached patch j and is not taken yet, its fraction with it, in parts of a nanolumen
abbrev pub unshot_at : Ledger → ℕ → ℕ
unshot_at l j = scale * slice_index l.residual j + slice_index l.err j

-- what is not taken yet at all patches together, in parts of a nanolumen
abbrev pub unshot : FluxSystem → Ledger → ℕ
unshot s l = sum_below (patches s) (unshot_at l)

-- each list has a number for each patch
pub record HasPatches (n : ℕ) (l : Ledger) : Type 0 where
  pub of_direct : length l.direct ≡ n
  pub of_taken : length l.taken ≡ n
  pub of_residual : length l.residual ≡ n
  pub of_err : length l.err ≡ n

-- At each patch, what was taken and what is left is what came directly and what was passed on to it, to the last part;
-- fractions are below a nanolumen for each account that they come from; and there are no more wins than the takes' bound.
pub record IsBalanced (s : FluxSystem) (l : Ledger) : Type 0 where
  pub lengths : HasPatches (patches s) l
  pub balance : (j : ℕ) → j < patches s → scale * (slice_index l.taken j + slice_index l.residual j) + slice_index l.err j ≡ scale * slice_index l.direct j + passed_to s l.taken j
  pub fractions : (j : ℕ) → j < patches s → slice_index l.err j < scale * l.parts
  pub few_wins : (l.wins * s.threshold) * least_keep s ≤ scale * sum l.direct

-- no residual reaches the threshold
abbrev pub IsFinished : FluxSystem → Ledger → Type 0
IsFinished s l = (j : ℕ) → j < patches s → slice_index l.residual j < s.threshold

-- each win took at least the threshold
abbrev pub IsPaid : FluxSystem → Ledger → Type 0
IsPaid s l = l.wins * s.threshold ≤ sum l.taken
