use Rattle.lux_plans.proofs.Caused.{follows_of}
use Rattle.lux_top.specs.PhotoCommand.{photo_plan}
use Rattle.lux_top.proofs.Plain.{plain_photo}
use Rattle.lux_top.proofs.PhotoRows.{photo_row}
use Rattle.lux_top.proofs.photo_command.photo.Goals as goal

pub returns-clause-follows : goal.returns-clause-follows
returns-clause-follows g c = follows_of (photo_plan c.args.name.now) _ _ _ _ (plain_photo c.args.name.now) c.decide-decided.ensures (c.conclude.ensures _ _)

pub returns-clause-row : goal.returns-clause-row
returns-clause-row g c = photo_row c.args.name.now _ _ _ (follows_of (photo_plan c.args.name.now) _ _ _ _ (plain_photo c.args.name.now) c.decide-decided.ensures (c.conclude.ensures _ _)).runs
