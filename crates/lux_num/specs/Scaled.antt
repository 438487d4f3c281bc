-- The magnitude of a decimal number times a power of ten: cut to a whole number, and compared with one.
use Rattle.std.specs.Prelude.{ℕ, ◌+◌, ◌*◌, ◌/◌, ◌%◌, ◌^◌, ◌==◌, ◌&&◌, not, nat_le, Bool, true, if◌then◌else◌, Option, Some, None, ℤ, pos, negsuc, ◌+ℤ◌}
use Rattle.lux_num.specs.declared.decimal.Decimal.{Decimal}

-- the greatest whole number that doesn't exceed a whole number times a power of ten
unfoldable pub scaled_value : ℕ → ℤ → ℕ
scaled_value mantissa (pos n) = mantissa * 10 ^ n
scaled_value mantissa (negsuc n) = mantissa / 10 ^ (n + 1)

-- a whole number times a power of ten is exactly a whole number
unfoldable pub is_scaled_whole : ℕ → ℤ → Bool
is_scaled_whole mantissa (pos n) = true
is_scaled_whole mantissa (negsuc n) = mantissa % 10 ^ (n + 1) == 0

-- a whole number times a power of ten, uncut, is at most a whole number
unfoldable pub is_scaled_within : ℕ → ℕ → ℤ → Bool
is_scaled_within most mantissa (pos n) = nat_le (mantissa * 10 ^ n) most
is_scaled_within most mantissa (negsuc n) = nat_le mantissa (most * 10 ^ (n + 1))

-- the greatest whole number that doesn't exceed the magnitude times 10^places
abbrev pub cut_value : Decimal → ℕ → ℕ
cut_value number places = scaled_value number.mantissa (number.exponent +ℤ pos places)

-- the magnitude itself, uncut, is at most a whole number
abbrev pub is_at_most : ℕ → Decimal → Bool
is_at_most most number = is_scaled_within most number.mantissa number.exponent

-- below zero: a minus that stands before 0 doesn't count
abbrev pub is_negative : Decimal → Bool
is_negative number = number.negative && not (number.mantissa == 0)

-- from 0 to a whole number, uncut
abbrev pub is_limited : ℕ → Decimal → Bool
is_limited most number = not (is_negative number) && is_at_most most number

-- the magnitude times 10^places, cut, unless it exceeds 10^38 before it is cut
abbrev pub fixed_value : Decimal → ℕ → Option ℕ
fixed_value number places =
    if is_scaled_within (10 ^ 38) number.mantissa (number.exponent +ℤ pos places) then Some (cut_value number places) else None

-- the magnitude, where it is a whole number of at most 10^38
abbrev pub whole_value : Decimal → Option ℕ
whole_value number =
    if is_scaled_whole number.mantissa number.exponent && is_at_most (10 ^ 38) number then Some (scaled_value number.mantissa number.exponent) else None
