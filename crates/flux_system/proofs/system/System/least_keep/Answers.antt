use Rattle.std.proofs.Common.{arith}
use Rattle.flux_system.proofs.Keeping.{least_keep-above}
use Rattle.flux_system.proofs.system.System.least_keep.Goals as goal

pub returns-clause-positive : goal.returns-clause-positive
returns-clause-positive c = let is = c.self.invariant.of_least in let above = least_keep-above _ c.self.invariant.valid in omega arith
