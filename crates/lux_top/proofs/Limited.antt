-- What follows where a direct flux is within the limits.
use Rattle.std.proofs.Common.{◌≡◌, ℕ, ◌≤◌, ◌^◌, List, sum, None, arith}
use Rattle.std.proofs.lemmas.Grind.{common_steps}
use Rattle.duties.specs.Duties.{first, unless}
use Rattle.flux_system.specs.System.{FluxSystem}
use Rattle.flux_system.specs.Limits.{limit_duties}

pub few_nanolumens : (s : FluxSystem) (flux : List ℕ) → first (limit_duties s flux) ≡ None → sum flux ≤ 10 ^ 16
unfolding limit_duties first unless
few_nanolumens s flux h = grind (arith, common_steps)
