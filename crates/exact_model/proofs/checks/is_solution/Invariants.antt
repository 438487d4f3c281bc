use Rattle.std.proofs.Common.{◌≡◌, ℕ, ◌+◌, ◌*◌, ◌<◌, get_or}
use Rattle.flux_system.specs.Sums.{sum_below}
use Rattle.flux_system.specs.System.{patches, scale, coefficient}
use Rattle.exact_model.proofs.checks.is_solution.Given as goal

abbrev pub invariant-loop-patch : goal.invariant-loop-patch
invariant-loop-patch l = record {
  end : l.patch-end ≡ patches l.system;
  each : (k : ℕ) → k < l.patch → scale * get_or l.num k 0 ≡ l.den * (scale * get_or l.direct k 0) + sum_below (patches l.system) (λ i. coefficient l.system i k * get_or l.num i 0);
}
