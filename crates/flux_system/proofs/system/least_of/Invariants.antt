use Rattle.std.proofs.Common.{◌≡◌, slice_index}
use Rattle.flux_system.specs.Sums.{least_below}
use Rattle.flux_system.proofs.system.least_of.Given as goal

abbrev pub invariant-loop-value : goal.invariant-loop-value
invariant-loop-value l = l.least ≡ least_below l.value-index (slice_index l.values)
