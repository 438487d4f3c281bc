use Rattle.std.proofs.Common.{◌+◌, ◌*◌, ◌≡◌}
use Rattle.grids.proofs.quotient.scaled_quotient.Given as goal

abbrev pub invariant-loop-rest : goal.invariant-loop-rest
invariant-loop-rest l = l.quotient * l.divisor + l.rest ≡ l.whole

abbrev pub decreases-loop-rest : goal.decreases-loop-rest
decreases-loop-rest l = l.rest
