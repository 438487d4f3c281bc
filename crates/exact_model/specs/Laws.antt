-- What holds of the solutions of a valid flux system.
use Rattle.std.specs.Prelude.{◌≡◌, ℕ, ◌+◌, ◌*◌, ◌<◌, ℤ, pos, ◌-ℤ◌, ◌*ℤ◌, ◌≤ℤ◌}
use Rattle.flux_system.specs.Sums.{sum_below}
use Rattle.flux_system.specs.System.{FluxSystem, scale, patches, coefficient, keep}
use Rattle.flux_system.specs.Validity.{IsSystem}
use Rattle.exact_model.specs.Solution.{sum_signed, Solves, IsSolution}
use Rattle.exact_model.specs.Elimination.{solution_of}

-- every system has a solution for every direct flux: the one that elimination gives
abbrev pub EverySystemHasASolution : Type 0
EverySystemHasASolution = (s : FluxSystem) (flux : ℕ → ℕ) → IsSystem s → IsSolution s flux (λ j. pos ((solution_of s flux).num j)) (solution_of s flux).den

-- two solutions for one source give each patch the same flux
abbrev pub SolutionsAgree : Type 0
SolutionsAgree = (s : FluxSystem) (source : ℕ → ℕ) (num num' : ℕ → ℤ) (den den' : ℕ) → IsSystem s → Solves s source num den → Solves s source num' den'
    → (j : ℕ) → j < patches s → num j *ℤ pos den' ≡ num' j *ℤ pos den

-- no patch has a negative flux: light only adds
abbrev pub FluxIsNowhereNegative : Type 0
FluxIsNowhereNegative = (s : FluxSystem) (source : ℕ → ℕ) (num : ℕ → ℤ) (den : ℕ) → IsSystem s → Solves s source num den
    → (j : ℕ) → j < patches s → pos 0 ≤ℤ num j

-- what all patches keep is what all sources give
abbrev pub PatchesKeepTheSource : Type 0
PatchesKeepTheSource = (s : FluxSystem) (source : ℕ → ℕ) (num : ℕ → ℤ) (den : ℕ) → IsSystem s → Solves s source num den
    → sum_signed (patches s) (λ i. num i *ℤ pos (keep s i)) ≡ pos (den * sum_below (patches s) source)

-- for a direct flux, what all patches keep is the direct flux
abbrev pub PatchesKeepTheDirectFlux : Type 0
PatchesKeepTheDirectFlux = (s : FluxSystem) (flux : ℕ → ℕ) (num : ℕ → ℤ) (den : ℕ) → IsSystem s → IsSolution s flux num den
    → sum_signed (patches s) (λ i. num i *ℤ pos (keep s i)) ≡ pos (scale * den * sum_below (patches s) flux)

-- The missing flux: where accounts say at each patch that what was taken and what is unshot is the direct flux and what all takes passed on,
-- what a solution has beyond what was taken solves the same system with what is unshot as its source.
abbrev pub MissingFluxComesFromTheUnshot : Type 0
MissingFluxComesFromTheUnshot = (s : FluxSystem) (flux taken unshot : ℕ → ℕ) (num : ℕ → ℤ) (den : ℕ) → IsSolution s flux num den
    → ((j : ℕ) → j < patches s → scale * taken j + unshot j ≡ scale * flux j + sum_below (patches s) (λ i. taken i * coefficient s i j))
    → Solves s unshot (λ j. num j -ℤ pos (den * taken j)) den
