use Rattle.std.proofs.Common.{refl, sym}
use Rattle.lux_num.proofs.Scaling.{fixed_limited}
use Rattle.lux_num.proofs.decimal.Decimal.cut_within.Goals as goal

pub returns-clause-exactly : goal.returns-clause-exactly
returns-clause-exactly c =
    let most = sym c.if-not-is_at_most.ensures in
    let limited = fixed_limited c.args.most c.args.self.now c.args.places c.ranges.most.fits c.requires most in
    rw (c.to_fixed.ensures.value, limited.0, sym c.if-is_negative.ensures, most) refl

pub returns-clause-bound : goal.returns-clause-bound
returns-clause-bound c =
    let limited = fixed_limited c.args.most c.args.self.now c.args.places c.ranges.most.fits c.requires (sym c.if-not-is_at_most.ensures) in
    rw (c.to_fixed.ensures.value, limited.0) limited.1
