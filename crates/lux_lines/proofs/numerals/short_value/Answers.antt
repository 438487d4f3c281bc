use Rattle.std.proofs.Common.{arith}
use Rattle.lux_lines.proofs.Digits.{room_for_digit}
use Rattle.lux_lines.proofs.numerals.short_value.Goals as goal

pub overflow_mul-value : goal.overflow_mul-value
overflow_mul-value c = omega (arith, room_for_digit c.loop-byte.byte-index c.loop-byte.value c.loop-byte.invariant.small (omega arith))

pub overflow_add-value : goal.overflow_add-value
overflow_add-value c = omega (arith, c.in_ok-value.ensures.small, room_for_digit c.loop-byte.byte-index c.loop-byte.value c.loop-byte.invariant.small (omega arith))
