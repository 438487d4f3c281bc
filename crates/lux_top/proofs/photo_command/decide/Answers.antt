use Rattle.lux_plans.proofs.Chains.{takes_gives}
use Rattle.lux_top.specs.PhotoCommand.{photometry_output}
use Rattle.lux_top.specs.PhotometryFiles.{photometry_file}
use Rattle.lux_top.proofs.photo_command.decide.Goals as goal

pub returns-in-Ok : goal.returns-in-Ok
returns-in-Ok g c = takes_gives (photometry_file c.args.name.now) photometry_output _ _ _ _ c.in-Ok.ensures c.write_out.ensures
