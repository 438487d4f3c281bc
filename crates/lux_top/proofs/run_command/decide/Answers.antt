use Rattle.lux_plans.proofs.Chains.{takes_gives, takes_refused}
use Rattle.lux_top.specs.ProjectFiles.{lit_room_file}
use Rattle.lux_top.specs.RunCommand.{crew_report}
use Rattle.lux_top.proofs.run_command.decide.Goals as goal

pub returns-in-Ok : goal.returns-in-Ok
returns-in-Ok g c = takes_gives (lit_room_file c.args.words.now.project) (crew_report c.args.words.now.form c.args.words.now.shooters) _ _ _ _ c.in-Ok.ensures c.report.ensures

pub returns-in-Err : goal.returns-in-Err
returns-in-Err g c = takes_refused (lit_room_file c.args.words.now.project) (crew_report c.args.words.now.form c.args.words.now.shooters) _ _ _ c.in-Err.ensures
