use Rattle.std.proofs.Common.{sym, arith}
use Rattle.std.proofs.Math.Nat.{div-eq_of_lt}
use Rattle.lux_num.proofs.TenPowers.{power_positive, below_power}
use Rattle.lux_num.proofs.scaled.quotient_by_power.Goals as goal

pub nonzero_div-result : goal.nonzero_div-result
nonzero_div-result c = omega (arith, power_positive c.args.power)

pub returns-then-power-gt38 : goal.returns-then-power-gt38
returns-then-power-gt38 c = sym (div-eq_of_lt (below_power c.args.number c.args.power c.ranges.number.fits c.if-power-gt38.true))
