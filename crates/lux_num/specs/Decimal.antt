-- Decimal numbers: an optional sign, 1 to 30 digits with at most one point before, among or behind them, and an optional
-- exponent, which is `E` or `e`, an optional sign and one or two digits. The grammar is this project's own.
use Rattle.std.specs.Prelude.{ℕ, ◌-◌, nat_le, List, [], ◌∷◌, length, pos, ◌-ℤ◌, Result}
use Rattle.duties.specs.Duties.{Duty, unless, judged}
use Rattle.lux_num.specs.declared.decimal.Decimal.{Decimal}
use Rattle.lux_num.specs.declared.decimal.NumFault.{NumFault}
use Rattle.lux_num.specs.declared.decimal.NumFault.TheVariants.{BadByte, Empty, TooManyDigits, Exponent}
use Rattle.lux_num.specs.Digits.{fraction_digits, tail, digits, digits_value, has_minus, may_be_exponent, is_exponent, exponent_value}

-- the tests of a text, in their order
unfoldable pub number_duties : List ℕ → List (Duty NumFault)
number_duties text =
    unless (may_be_exponent (tail text)) (BadByte (length text - length (tail text)))
    ∷ unless (nat_le 1 (length (digits text))) Empty
    ∷ unless (nat_le (length (digits text)) 30) TooManyDigits
    ∷ unless (is_exponent (tail text)) Exponent
    ∷ []

-- the number: its sign, its digits as one whole number, and the power of ten that joins exponent and point
unfoldable pub number_value : List ℕ → Decimal
number_value text = record {
  negative = has_minus text;
  mantissa = digits_value (digits text);
  exponent = exponent_value (tail text) -ℤ pos (length (fraction_digits text));
}

-- the number that a text is, or the first fault that applies
abbrev pub number_of : List ℕ → Result Decimal NumFault
number_of text = judged (number_duties text) (number_value text)
