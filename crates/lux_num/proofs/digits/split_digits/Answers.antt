use Rattle.std.specs.Char.{is_ascii_digit}
use Rattle.lux_num.proofs.Reading.{front_all}
use Rattle.lux_num.proofs.digits.split_digits.Goals as goal

pub returns-clause-digits : goal.returns-clause-digits
returns-clause-digits c = rw c.digit_count-len.ensures.count (front_all is_ascii_digit c.args.text.now)
