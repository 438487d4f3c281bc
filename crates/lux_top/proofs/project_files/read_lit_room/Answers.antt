use Rattle.lux_plans.proofs.Chains.{takes_then, takes_refused}
use Rattle.lux_top.specs.ProjectFiles.{project_file, lit_project}
use Rattle.lux_top.proofs.project_files.read_lit_room.Goals as goal

pub returns-in-Ok : goal.returns-in-Ok
returns-in-Ok g c = takes_then (project_file c.args.name.now) lit_project _ _ _ _ _ c.in-Ok.ensures c.light_project.ensures

pub returns-in-Err : goal.returns-in-Err
returns-in-Err g c = takes_refused (project_file c.args.name.now) lit_project _ _ _ c.in-Err.ensures
