use Rattle.std.proofs.Common.{◌≡◌, pos, ◌<ℤ◌, w64, refl, ap, ◌∙◌, arith}
use Rattle.std.specs.Prelude.{unsigned_abs}
use Rattle.std.proofs.lemmas.Int.{ints, to_z-of_z}
use Rattle.lux_num.proofs.Scaling.{lowered_is}
use Rattle.lux_num.proofs.scaled.scaled_value.Goals as goal

pub returns-then-power-lt0 : goal.returns-then-power-lt0
returns-then-power-lt0 c =
    let below : c.args.power <ℤ pos 0 = omega (arith, ints) in
    let low = lowered_is c.args.number c.args.power c.ranges.number.fits below in
    let abs : c.unsigned_abs.result ≡ unsigned_abs c.args.power = c.unsigned_abs.ensures.value ∙ ap unsigned_abs (to_z-of_z w64 c.args.power c.ranges.power) in
    rw (low.small, low.cut, c.quotient_by_power.ensures, abs) refl
