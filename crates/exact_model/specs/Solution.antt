-- The exact solution of a flux system: the flux that reaches each patch once all light has spread
-- (the radiosity equation of Cohen, Chen, Wallace and Greenberg 1988). Fractions are whole numbers, perhaps negative, over one denominator.
use Rattle.std.specs.Prelude.{◌≡◌, ℕ, zero, suc, ◌*◌, ◌<◌, ℤ, pos, ◌+ℤ◌, ◌*ℤ◌, ◌≤ℤ◌}
use Rattle.flux_system.specs.System.{FluxSystem, scale, patches, coefficient}

-- the sum of f over the numbers below n
abbrev pub sum_signed : ℕ → (ℕ → ℤ) → ℤ
sum_signed zero f = pos 0
sum_signed (suc n) f = sum_signed n f +ℤ f n

-- At each patch, the flux is what its source gives and what all patches pass on to it.
-- The source is in parts of a nanolumen, and the flux of patch j is num j / den nanolumens.
pub record Solves (s : FluxSystem) (source : ℕ → ℕ) (num : ℕ → ℤ) (den : ℕ) : Type 0 where
  pub positive : 0 < den
  pub equation : (j : ℕ) → j < patches s → pos scale *ℤ num j ≡ pos (den * source j) +ℤ sum_signed (patches s) (λ i. pos (coefficient s i j) *ℤ num i)

-- a solution for a direct flux in nanolumens
abbrev pub IsSolution : FluxSystem → (ℕ → ℕ) → (ℕ → ℤ) → ℕ → Type 0
IsSolution s flux num den = Solves s (λ j. scale * flux j) num den

-- every solution has at patch j a flux from the low end to the high end, in nanolumens
abbrev pub Encloses : FluxSystem → (ℕ → ℕ) → ℕ → ℕ → ℕ → Type 0
Encloses s flux j low high = (num : ℕ → ℤ) (den : ℕ) → IsSolution s flux num den → (pos (den * low) ≤ℤ num j) × (num j ≤ℤ pos (den * high))
