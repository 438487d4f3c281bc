-- A solution for a direct flux, made by elimination: one patch after the other leaves the equations, and comes back with its flux once the
-- others have theirs. All of it is in natural numbers of any size, and no code holds them.
use Rattle.std.specs.Prelude.{ℕ, zero, suc, ◌+◌, ◌-◌, ◌*◌, if◌then◌else◌, nat_eq}
use Rattle.flux_system.specs.Sums.{sum_below}
use Rattle.flux_system.specs.System.{FluxSystem, scale, patches, coefficient}

-- Equations of patches: at patch j, the scale times its flux is what its source gives and what all patches pass on to it,
-- the sum over i of passes i j times the flux of i.
pub record Equations : Type 0 where
  pub scale : ℕ
  pub passes : ℕ → ℕ → ℕ
  pub source : ℕ → ℕ

-- the flux of each patch, over one denominator
pub record Fractions : Type 0 where
  pub num : ℕ → ℕ
  pub den : ℕ

-- what is left of the scale at patch z without what z passes on to itself
abbrev pub remaining_scale : ℕ → Equations → ℕ
remaining_scale z e = e.scale - e.passes z z

-- The equations of the others once patch z is eliminated: what would reach them by way of z is added to what reaches them at once.
-- All numbers are multiplied by what is left of the scale at z, so that none has to be divided.
abbrev pub equations_without : ℕ → Equations → Equations
equations_without z e = record {
  scale = e.scale * remaining_scale z e;
  passes = λ i j. remaining_scale z e * e.passes i j + e.passes i z * e.passes z j;
  source = λ j. remaining_scale z e * e.source j + e.passes z j * e.source z;
}

-- what patch z gets of its own source and of the patches before it, whose fluxes are known
abbrev pub reaching_flux : ℕ → Equations → Fractions → ℕ
reaching_flux z e f = f.den * e.source z + sum_below z (λ i. e.passes i z * f.num i)

-- back substitution: the fluxes of the patches before z, and with them that of z
abbrev pub fluxes_with : ℕ → Equations → Fractions → Fractions
fluxes_with z e f = record {
  num = λ j. if nat_eq j z then reaching_flux z e f else remaining_scale z e * f.num j;
  den = remaining_scale z e * f.den;
}

-- the fluxes that solve the equations of the first n patches
unfoldable pub elimination_fluxes : ℕ → Equations → Fractions
elimination_fluxes zero e = record { num = λ j. 0; den = 1 }
elimination_fluxes (suc z) e = fluxes_with z e (elimination_fluxes z (equations_without z e))

-- the equations of a flux system for a direct flux in nanolumens
abbrev pub equations_of : FluxSystem → (ℕ → ℕ) → Equations
equations_of s flux = record { scale = scale; passes = coefficient s; source = λ j. scale * flux j }

-- the fluxes that elimination gives all patches of a system
abbrev pub solution_of : FluxSystem → (ℕ → ℕ) → Fractions
solution_of s flux = elimination_fluxes (patches s) (equations_of s flux)
