use Rattle.std.proofs.Common.{subst}
use Rattle.workload.specs.Shapes.{IsLayout}
use Rattle.workload.proofs.Accepted.{generated_is_layout}
use Rattle.workload.proofs.layouts.Layout.generate.Goals as goal

pub returns-clause-valid : goal.returns-clause-valid
returns-clause-valid c = subst IsLayout (cc) (generated_is_layout c.args.number)
