-- A number in its digits is a numeral, and says that number.
use Rattle.std.proofs.Common.{◌≡◌, ℕ, ◌+◌, ◌-◌, ◌*◌, ◌<◌, ◌^◌, ◌==◌, ◌&&◌, Bool, true, false, List, [], ◌∷◌, length, slice_index, fold, refl, ap, arith, inl, inr}
use Rattle.std.specs.Prelude.{nat_le, nat_lt}
use Rattle.std.specs.Fmt.{decimal}
use Rattle.std.specs.List.{list_all}
use Rattle.std.specs.Char.{is_ascii_digit}
use Rattle.std.proofs.lemmas.Bool.{cases_lt}
use Rattle.std.proofs.lemmas.Bool.Decides.{nat_tests}
use Rattle.std.proofs.lemmas.Fmt.{first_decimal, decimal_digit, digits_decimal, digits_value-decimal, length-decimal-le}
use Rattle.std.proofs.lemmas.Grind.{common_steps}
use Rattle.std.proofs.lemmas.Str.Parse.{IsNumeralModel, IsDigitsTest, FoldsDigits, numerals_by_fold}
use Rattle.lux_lines.specs.Numerals.{is_numeral, numeral_value}

-- all bytes are digits
abbrev AreDigits : List ℕ → Type 0
AreDigits bytes = list_all is_ascii_digit bytes ≡ true

-- the number that digits say behind one
abbrev value_from : ℕ → List ℕ → ℕ
value_from value bytes = fold (λ value digit. 10 * value + (digit - 48)) value bytes

split : (a b : Bool) → (a && b) ≡ true → (a ≡ true) × (b ≡ true)
split true b h = (refl, h)
split false b h = absurd (cc)

tells : IsDigitsTest AreDigits
tells = record {
  empty = refl;
  parts = λ c cs h. let both = split (is_ascii_digit c) (list_all is_ascii_digit cs) h in let digit = split (nat_le 48 c) (nat_le c 57) both.0 in ((grind (arith, nat_tests), grind (arith, nat_tests)), both.1);
  more = λ c cs digit h. let low : nat_le 48 c ≡ true = grind (arith, nat_tests) in let high : nat_le c 57 ≡ true = grind (arith, nat_tests) in rw (low, high) h;
}

folds : FoldsDigits value_from
folds = record {
  empty = λ n. refl;
  more = λ n c cs digit. ap (λ (value : ℕ). value_from value cs) (let e : 10 * n + (c - 48) ≡ n * 10 + (c - 48) = omega arith in e);
}

model : IsNumeralModel AreDigits numeral_value
model = numerals_by_fold AreDigits tells value_from folds

pub decimal_value : (n : ℕ) → n < 2 ^ 64 → numeral_value (decimal n) ≡ n
decimal_value n small = digits_value-decimal model n small

pub decimal_digits : (n : ℕ) → n < 2 ^ 64 → list_all is_ascii_digit (decimal n) ≡ true
decimal_digits n small = digits_decimal model n small

pub decimal_numeral : (n : ℕ) → n < 2 ^ 64 → is_numeral (decimal n) ≡ true
decimal_numeral n small = elim (cases_lt 0 n) [
  | inl some ↦
      let first = first_decimal n some small in
      let digits = decimal_digits n small in
      let long = length-decimal-le 20 n (omega arith) (omega arith) small in
      let value = decimal_value n small in
      let nonempty : 0 < length (decimal n) = some_digits (decimal n) first in
      let a : nat_le 1 (length (decimal n)) ≡ true = grind (arith, nat_tests) in
      let b : nat_le (length (decimal n)) 20 ≡ true = grind (arith, nat_tests) in
      let c : (slice_index (decimal n) 0 == 48) ≡ false = grind (arith, nat_tests) in
      let d : nat_lt (numeral_value (decimal n)) (2 ^ 64) ≡ true = grind (arith, nat_tests) in
      grind (arith, common_steps)
  | inr none ↦ let zero_is : n ≡ 0 = omega arith in rw (zero_is, decimal_digit 0 (omega arith)) refl
]
  where
    some_digits : (word : List ℕ) → 48 < slice_index word 0 → 0 < length word
    some_digits [] h = absurd (omega arith)
    some_digits (x ∷ word) h = omega arith
