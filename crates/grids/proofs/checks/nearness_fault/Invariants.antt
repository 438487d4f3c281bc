use Rattle.std.proofs.Common.{◌≡◌, None}
use Rattle.duties.specs.Duties.{each}
use Rattle.grids.specs.Validity.{point_duty}
use Rattle.grids.proofs.checks.nearness_fault.Given as goal

abbrev pub invariant-loop-g : goal.invariant-loop-g
invariant-loop-g l = each l.g (point_duty l.grid) ≡ None
