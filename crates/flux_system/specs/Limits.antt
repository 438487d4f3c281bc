-- The limits of the direct flux. They are this project's own.
use Rattle.std.specs.Prelude.{ℕ, ◌^◌, nat_le, List, [], ◌∷◌, sum}
use Rattle.duties.specs.Duties.{Duty, unless}
use Rattle.flux_system.specs.declared.faults.LimitFault.{LimitFault}
use Rattle.flux_system.specs.declared.faults.LimitFault.TheVariants.{FluxTooLarge, TooManyTakes}
use Rattle.flux_system.specs.System.{FluxSystem, bound_of_takes}

-- at most 10^16 nanolumens over all patches, and a bound of at most 10^8 takes
unfoldable pub limit_duties : FluxSystem → List ℕ → List (Duty LimitFault)
limit_duties s direct =
    unless (nat_le (sum direct) (10 ^ 16)) (FluxTooLarge (sum direct))
    ∷ unless (nat_le (bound_of_takes s direct) (10 ^ 8)) (TooManyTakes (bound_of_takes s direct))
    ∷ []
