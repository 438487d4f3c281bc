use Rattle.lux_plans.proofs.Caused.{follows_of}
use Rattle.lux_top.specs.RunCommand.{run_plan}
use Rattle.lux_top.proofs.Plain.{plain_run}
use Rattle.lux_top.proofs.RunRows.{run_row}
use Rattle.lux_top.proofs.run_command.run.Goals as goal

pub returns-clause-follows : goal.returns-clause-follows
returns-clause-follows g c = follows_of (run_plan c.args.words.now) _ _ _ _ (plain_run c.args.words.now) c.decide-decided.ensures (c.conclude.ensures _ _)

pub returns-clause-row : goal.returns-clause-row
returns-clause-row g c = run_row c.args.words.now _ _ _ (follows_of (run_plan c.args.words.now) _ _ _ _ (plain_run c.args.words.now) c.decide-decided.ensures (c.conclude.ensures _ _)).runs
