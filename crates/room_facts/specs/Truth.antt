-- What is exact in a lit room, and that facts are true of it: each of their intervals encloses the exact value, and a pass or a fail is
-- the exact verdict. The exact flux is the solution of the room's flux system for its direct flux.
use Rattle.std.specs.Prelude.{◌≡◌, ℕ, ◌*◌, ◌<◌, ◌≤◌, ◌^◌, ◌⊎◌, ◌↔◌, pos, List, map, All, slice_index, slice_index_or}
use Rattle.std.specs.List.{range_with_len}
use Rattle.compliance.specs.declared.checks.CheckSpec.{CheckSpec}
use Rattle.compliance.specs.declared.judging.Judged.{Judged}
use Rattle.compliance.specs.declared.verdicts.Verdict.{Verdict}
use Rattle.compliance.specs.declared.verdicts.Verdict.TheVariants.{Undecided}
use Rattle.compliance.specs.Exact.{Fraction, IsBetween, exact_average, exact_uniformity, exact_verdict}
use Rattle.exact_model.specs.Solution.{IsSolution}
use Rattle.flux_system.specs.System.{patches}
use Rattle.grids.specs.declared.spec.GridSpec.{GridSpec}
use Rattle.grids.specs.Grids.{grid_of, count}
use Rattle.grids.specs.GridPoint.{exact_light}
use Rattle.lit_room.specs.LitRooms.{Lighting, system_of, flux_of}
use Rattle.project_file.specs.Projects.{project_room}
use Rattle.lux_report.specs.Facts.{Facts, judged_checks}
use Rattle.room_facts.specs.RoomFacts.{direct_on}

-- The flux of patch j is num j / den nanolumens: this solves the room's system for its direct flux. No solution is negative at any
-- patch, so that natural numbers over one denominator are all there are; and all solutions are the same fractions.
abbrev pub IsExactFlux : Lighting → (ℕ → ℕ) → ℕ → Type 0
IsExactFlux lighting num den = IsSolution (system_of lighting) (slice_index (flux_of lighting)) (λ j. pos (num j)) den

-- what holds of every exact flux
abbrev pub ForExactFlux : Lighting → ((ℕ → ℕ) → ℕ → Type 0) → Type 0
ForExactFlux lighting P = (num : ℕ → ℕ) (den : ℕ) → IsExactFlux lighting num den → P num den

-- the exact light at point g of a grid, in nanolux
abbrev pub exact_point : Lighting → GridSpec → (ℕ → ℕ) → ℕ → ℕ → Fraction
exact_point lighting grid num den g = exact_light (project_room lighting.project) grid (direct_on lighting grid) g num den

-- the same at all its points, over the bottom that they share
abbrev pub exact_points : Lighting → GridSpec → (ℕ → ℕ) → ℕ → List ℕ
exact_points lighting grid num den = map (λ g. (exact_point lighting grid num den g).top) (range_with_len 0 (count grid))

abbrev pub shared_bottom : ℕ → ℕ
shared_bottom den = 10 ^ 15 * den

-- A value of a check that is exact by the light at its points, with a limit: the ends enclose it; a verdict that isn't open is the exact
-- one; and it is open just where the limit is above the low end and not above the high end.
pub record IsTrueValue (lighting : Lighting) (grid : GridSpec) (limit : ℕ) (exact : List ℕ → ℕ → Fraction) (ends : ℕ × ℕ) (verdict : Verdict) : Type 0 where
  pub encloses : ForExactFlux lighting (λ num den. IsBetween ends (exact (exact_points lighting grid num den) (shared_bottom den)))
  pub decides : ForExactFlux lighting (λ num den. (verdict ≡ Undecided) ⊎ (verdict ≡ exact_verdict limit (exact (exact_points lighting grid num den) (shared_bottom den))))
  pub open_where : (verdict ≡ Undecided) ↔ ((ends.0 < limit) × (limit ≤ ends.1))

-- the intervals of the points enclose the light there
abbrev pub EncloseLight : Lighting → GridSpec → List (ℕ × ℕ) → Type 0
EncloseLight lighting grid points = (g : ℕ) → g < count grid → ForExactFlux lighting (λ num den. IsBetween (slice_index_or points g (0, 0)) (exact_point lighting grid num den g))

-- the same of a check and of what it is answered by these intervals
pub record IsTrueOn (lighting : Lighting) (grid : GridSpec) (check : CheckSpec) (points : List (ℕ × ℕ)) (judged : Judged) : Type 0 where
  pub light : EncloseLight lighting grid points
  pub average : IsTrueValue lighting grid (1000 * check.average) (exact_average check.maintenance) judged.average judged.average_verdict
  pub uniformity : IsTrueValue lighting grid check.uniformity exact_uniformity judged.uniformity judged.uniformity_verdict

abbrev pub IsTrueCheck : Lighting → CheckSpec → List (ℕ × ℕ) → Judged → Type 0
IsTrueCheck lighting check points judged = IsTrueOn lighting (grid_of lighting.project.room check) check points judged

-- the intervals of the patches enclose the flux there
abbrev pub EncloseFlux : Lighting → List (ℕ × ℕ) → Type 0
EncloseFlux lighting bounds = (j : ℕ) → j < patches (system_of lighting) → ForExactFlux lighting (λ num den. IsBetween (slice_index_or bounds j (0, 0)) (record { top = num j; bottom = den }))

-- facts that are true of a lit room
pub record AreTrue (lighting : Lighting) (facts : Facts) : Type 0 where
  pub patches : EncloseFlux lighting facts.bounds
  pub checks : All (λ c. IsTrueCheck lighting c.0 c.1.0 c.1.1) (judged_checks lighting.project facts)
