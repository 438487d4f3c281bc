-- The interval of a patch: from what its ledger says is there, to what can still come. The rule is this project's own.
use Rattle.std.specs.Prelude.{ℕ, zero, suc, ◌+◌, ◌*◌, ◌<◌, ◌≤◌, ◌^◌, max, List, map, slice_index, sum}
use Rattle.std.specs.Int.{div_ceil}
use Rattle.std.specs.List.{range_with_len}
use Rattle.flux_system.specs.System.{FluxSystem, scale, patches, coefficient, keep}
use Rattle.flux_ledger.specs.Balance.{unshot, IsBalanced, IsFinished}
use Rattle.flux_ledger.specs.declared.ledger.Ledger.{Ledger}
use Rattle.exact_model.specs.Solution.{Encloses}

-- what is not shot yet at all patches together, in nanolumens, rounded up
abbrev pub spill_of : FluxSystem → Ledger → ℕ
spill_of s l = div_ceil (unshot s l) scale

-- the greatest value of f at the numbers below n, 0 where there are none
abbrev pub greatest_below : ℕ → (ℕ → ℕ) → ℕ
greatest_below zero f = 0
greatest_below (suc n) f = max (greatest_below n f) (f n)

-- what patch j could still get of patch i, were all that spills kept there in the end: rounded up
abbrev pub rise_from : FluxSystem → ℕ → ℕ → ℕ → ℕ
rise_from s spill j i = div_ceil (coefficient s i j * spill) (keep s i)

-- what the ledger says is there
abbrev pub low_end : Ledger → ℕ → ℕ
low_end l j = slice_index l.taken j + slice_index l.residual j

-- and besides the fraction, rounded up, and the most that can still come from another patch
abbrev pub high_end : FluxSystem → Ledger → ℕ → ℕ
high_end s l j = low_end l j + div_ceil (slice_index l.err j) scale + greatest_below (patches s) (rise_from s (spill_of s l) j)

-- both ends
abbrev pub interval_of : FluxSystem → Ledger → ℕ → ℕ × ℕ
interval_of s l j = (low_end l j, high_end s l j)

-- the intervals of all patches
abbrev pub intervals_of : FluxSystem → Ledger → List (ℕ × ℕ)
intervals_of s l = map (interval_of s l) (range_with_len 0 (patches s))

-- a ledger that is finished and balanced for the system, of at most 10^16 nanolumens
pub record IsDone (s : FluxSystem) (l : Ledger) : Type 0 where
  pub balanced : IsBalanced s l
  pub finished : IsFinished s l
  pub limited : sum l.direct ≤ 10 ^ 16

-- every interval of the ledger encloses what every solution for its direct flux has there
abbrev pub EnclosesAll : FluxSystem → Ledger → Type 0
EnclosesAll s l = (j : ℕ) → j < patches s → Encloses s (slice_index l.direct) j (low_end l j) (high_end s l j)
