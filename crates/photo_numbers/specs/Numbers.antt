-- The limits that photometry files of all formats share: counts, which are whole numbers, and angles.
use Rattle.std.specs.Prelude.{ℕ, ◌&&◌, not, nat_le, Bool, is_some, unwrap_or, pos, false}
use Rattle.lux_num.specs.declared.decimal.Decimal.{Decimal}
use Rattle.lux_num.specs.Scaled.{cut_value, whole_value, is_negative}

-- the number that stands where none is
abbrev pub zero_number : Decimal
zero_number = record { negative = false; mantissa = 0; exponent = pos 0 }

-- what a number counts: the whole number that it is, 0 where it is none
abbrev pub count_of : Decimal → ℕ
count_of number = unwrap_or (whole_value number) 0

-- a whole number, not negative, from one to another
abbrev pub is_whole_within : ℕ → ℕ → Decimal → Bool
is_whole_within low high number = is_some (whole_value number) && not (is_negative number) && nat_le low (count_of number) && nat_le (count_of number) high

-- the angle in millidegrees that a number of degrees is, cut
abbrev pub angle_of : Decimal → ℕ
angle_of number = cut_value number 3

-- a number is no negative angle, and cut it is from the least to the most
abbrev pub is_angle : ℕ → ℕ → Decimal → Bool
is_angle least most number = not (is_negative number) && nat_le least (angle_of number) && nat_le (angle_of number) most
