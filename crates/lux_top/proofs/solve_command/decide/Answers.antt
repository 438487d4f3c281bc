use Rattle.std.proofs.Common.{subst}
use Rattle.lux_plans.specs.Plans.{Gives}
use Rattle.lux_plans.proofs.Chains.{takes_gives}
use Rattle.lux_top.specs.Settlements.{settlement}
use Rattle.lux_top.specs.SystemFiles.{Problem, problem_file}
use Rattle.lux_top.proofs.solve_command.decide.Goals as goal

pub returns-in-Ok : goal.returns-in-Ok
returns-in-Ok g c =
    takes_gives (problem_file c.args.name.now) settlement _ _ _ _ c.in-Ok.ensures
    (subst (λ (p : Problem). Gives (settlement p) c.settle.result) c.problem.view_is (rw c.deref.ensures.value at c.settle.ensures))
