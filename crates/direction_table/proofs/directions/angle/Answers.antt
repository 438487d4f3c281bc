use Rattle.std.proofs.Common.{arith}
use Rattle.direction_table.proofs.Between.{thousandths-below}
use Rattle.direction_table.proofs.directions.angle.Goals as goal

pub returns-clause-short_of_the_y_axis : goal.returns-clause-short_of_the_y_axis
returns-clause-short_of_the_y_axis c h = let below = thousandths-below c.args.x c.args.y h in grind (arith, below)
