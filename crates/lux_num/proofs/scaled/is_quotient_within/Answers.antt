use Rattle.std.proofs.Common.{◌^◌}
use Rattle.lux_num.proofs.TenPowers.{below_power}
use Rattle.lux_num.proofs.Scaling.{below_times}
use Rattle.lux_num.proofs.scaled.is_quotient_within.Goals as goal

pub returns-else-number-eq0 : goal.returns-else-number-eq0
returns-else-number-eq0 c = below_times c.args.number c.args.most (10 ^ c.args.power) c.if-number-eq0.false (below_power c.args.number c.args.power c.ranges.number.fits c.if-power-gt38.true)
