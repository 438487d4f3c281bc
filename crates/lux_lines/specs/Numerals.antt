-- Numerals: the one way in which the texts of this project write a whole number of at most 64 bits.
use Rattle.std.specs.Prelude.{ℕ, ◌+◌, ◌-◌, ◌*◌, ◌^◌, ◌==◌, ◌&&◌, ◌||◌, not, nat_lt, nat_le, Bool, List, fold, length, slice_index}
use Rattle.std.specs.List.{list_all}
use Rattle.std.specs.Char.{is_ascii_digit}

-- what the digits of a word say in base ten
abbrev pub numeral_value : List ℕ → ℕ
numeral_value word = fold (λ value digit. 10 * value + (digit - 48)) 0 word

-- 1 to 20 digits, of which the first is no 0 but in `0` itself, for a number below 2^64
abbrev pub is_numeral : List ℕ → Bool
is_numeral word =
    nat_le 1 (length word) && nat_le (length word) 20 && list_all is_ascii_digit word
    && ((length word == 1) || not (slice_index word 0 == 48)) && nat_lt (numeral_value word) (2 ^ 64)
