use Rattle.std.proofs.Common.{◌≡◌, ◌*◌, ◌^◌, ◌<◌, true, false, leb, refl, arith, inl, inr, lit<}
use Rattle.lux_num.proofs.Outcomes.{leb_holds, leb_fails}
use Rattle.lux_num.proofs.TenPowers.{raised_fits, raised_passes}
use Rattle.lux_num.proofs.scaled.product_with_power.Goals as goal
use Rattle.lux_num.proofs.scaled.product_with_power.Goals.{then-power-gt38-via-then-power-gt38, then-power-gt38-via-else-power-gt38+then-number-power_of_ten}

pub returns-then-power-gt38 : goal.returns-then-power-gt38
returns-then-power-gt38 c =
    let past : 10 ^ 38 < c.args.number * 10 ^ c.args.power = elim c.then-power-gt38.branch [
      | then-power-gt38-via-then-power-gt38 w ↦ raised_passes c.args.number c.args.power (omega arith) (inl w.if-power-gt38.true)
      | then-power-gt38-via-else-power-gt38+then-number-power_of_ten w ↦ raised_passes c.args.number c.args.power (omega arith) (inr (omega arith, omega arith))
    ] in
    let fails : leb (c.args.number * 10 ^ c.args.power) (10 ^ 38) ≡ false = leb_fails (c.args.number * 10 ^ c.args.power) (10 ^ 38) past in
    rw fails refl

pub overflow_mul-result : goal.overflow_mul-result
overflow_mul-result c =
    let fits = raised_fits c.args.number c.args.power (omega arith) (omega arith) in
    let room : 10 ^ 38 < 2 ^ 128 = lit< tt in
    rw c.power_of_ten-2.ensures (omega arith)

pub returns : goal.returns
returns c =
    let fits = raised_fits c.args.number c.args.power (omega arith) (omega arith) in
    let holds : leb (c.args.number * 10 ^ c.args.power) (10 ^ 38) ≡ true = leb_holds (c.args.number * 10 ^ c.args.power) (10 ^ 38) fits in
    rw (holds, c.power_of_ten-2.ensures) refl
