use Rattle.std.proofs.Common.{◌^◌, refl, arith}
use Rattle.std.proofs.lemmas.Bool.{ne_eqb}
use Rattle.lux_num.proofs.TenPowers.{power_positive, below_power}
use Rattle.lux_num.proofs.Scaling.{zero_test}
use Rattle.lux_num.proofs.scaled.exact_quotient.Goals as goal

pub nonzero_div-quotient : goal.nonzero_div-quotient
nonzero_div-quotient c = omega (arith, power_positive c.args.power)

pub returns-else-number-eq0 : goal.returns-else-number-eq0
returns-else-number-eq0 c =
    let test = zero_test c.args.number (10 ^ c.args.power) (below_power c.args.number c.args.power c.ranges.number.fits c.if-power-gt38.true) in
    rw (test, ne_eqb c.args.number 0 c.if-number-eq0.false) refl
