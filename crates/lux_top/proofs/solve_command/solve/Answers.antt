use Rattle.lux_plans.proofs.Caused.{follows_of}
use Rattle.lux_top.specs.SolveCommand.{solve_plan}
use Rattle.lux_top.proofs.Plain.{plain_solve}
use Rattle.lux_top.proofs.SolveRows.{solve_row}
use Rattle.lux_top.proofs.solve_command.solve.Goals as goal

pub returns-clause-follows : goal.returns-clause-follows
returns-clause-follows g c = follows_of (solve_plan c.args.name.now) _ _ _ _ (plain_solve c.args.name.now) c.decide-decided.ensures (c.conclude.ensures _ _)

pub returns-clause-row : goal.returns-clause-row
returns-clause-row g c = solve_row c.args.name.now _ _ _ (follows_of (solve_plan c.args.name.now) _ _ _ _ (plain_solve c.args.name.now) c.decide-decided.ensures (c.conclude.ensures _ _)).runs
