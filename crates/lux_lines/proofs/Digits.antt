-- Steps along the digits of a word.
use Rattle.std.proofs.Common.{lit<, ◌≡◌, ℕ, ◌+◌, ◌-◌, ◌*◌, ◌<◌, ◌≤◌, ◌^◌, ◌&&◌, List, length, get_or, take, ap, sym, ◌∙◌, arith}
use Rattle.std.specs.List.{list_all}
use Rattle.std.specs.Char.{is_ascii_digit}
use Rattle.std.proofs.lemmas.List.{take_all}
use Rattle.std.proofs.Math.Nat.{pow-le-pow_right}
use Rattle.std.proofs.lemmas.List.Folds.{list_all_more}
use Rattle.std.proofs.lemmas.List.Sums.{fold_more}
use Rattle.lux_lines.specs.Numerals.{numeral_value}

-- at most 18 digits, and one more digit, fit 64 bits
pub room_for_digit : (k value : ℕ) → value < 10 ^ k → k < 19 → 10 * value + 9 < 10 ^ 19
room_for_digit k value small few =
    let most : k ≤ 18 = omega arith in
    let power : 10 ^ k ≤ 10 ^ 18 = pow-le-pow_right (lit< tt) most in
    omega arith

-- the last of 20 digits
pub last_digit : (word : List ℕ) → length word ≡ 20 →
    (list_all is_ascii_digit word ≡ (list_all is_ascii_digit (take 19 word) && is_ascii_digit (get_or word 19 0)))
    × (numeral_value word ≡ 10 * numeral_value (take 19 word) + (get_or word 19 0 - 48))
last_digit word is_20 =
    let whole : take 20 word ≡ word = take_all 20 word (omega arith) in
    let inside : 19 < length word = omega arith in (
      ap (list_all is_ascii_digit) (sym whole) ∙ list_all_more is_ascii_digit word 19 0 inside,
      ap numeral_value (sym whole) ∙ fold_more (λ (value : ℕ) (digit : ℕ). 10 * value + (digit - 48)) 0 word 19 0 inside,
    )
