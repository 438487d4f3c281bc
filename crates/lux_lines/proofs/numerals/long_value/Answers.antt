use Rattle.std.proofs.Common.{arith}
use Rattle.lux_lines.proofs.Digits.{last_digit}
use Rattle.lux_lines.proofs.numerals.long_value.Goals as goal

pub returns-clause-value : goal.returns-clause-value
returns-clause-value c =
    let whole = last_digit c.args.word.now c.requires in
    omega (arith, c.in_ok-front.ensures.value, c.in_ok-last.ensures.value)
