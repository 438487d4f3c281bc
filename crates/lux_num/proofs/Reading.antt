-- Steps along the digits of a number.
use Rattle.std.proofs.Common.{◌≡◌, ℕ, zero, suc, ◌+◌, ◌-◌, ◌*◌, ◌<◌, ◌≤◌, ◌^◌, Bool, true, false, cond, List, [], ◌∷◌, length, get_or, take, drop, Ok, Err, refl, ap, ◌∙◌, arith, lit<, w32, ℤ, pos, neg_ℤ, ◌-ℤ◌, to_z, of_z, negsuc, ◌≤ℤ◌}
use Rattle.std.proofs.lemmas.Bool.Decides.{nat_tests}
use Rattle.std.proofs.lemmas.Int.{ints}
use Rattle.duties.proofs.Orders.{this_met, this_fails, none_left, unless_holds, unless_fails, judged_ok, judged_err}
use Rattle.std.specs.List.{list_all, prefix_len}
use Rattle.std.specs.Char.{is_ascii_digit}
use Rattle.std.proofs.Math.Nat.{pow-le-pow_right}
use Rattle.lux_num.specs.declared.decimal.NumFault.TheVariants.{BadByte, Empty, TooManyDigits, Exponent}
use Rattle.lux_num.specs.Digits.{exponent_value, digits_value, behind_sign, has_minus, tail, digits, may_be_exponent, is_exponent}
use Rattle.lux_num.specs.Decimal.{number_duties, number_value, number_of}
use Rattle.lux_num.proofs.Outcomes.{leb_holds, leb_fails, both}

-- no exponent is the power 0
pub no_exponent : (text : List ℕ) → length text ≡ 0 → exponent_value text ≡ pos 0
unfolding exponent_value
no_exponent [] h = refl
no_exponent (x ∷ xs) h = absurd (omega arith)

-- the digits in front are digits
pub front_all : (test : ℕ → Bool) (xs : List ℕ) → list_all test (take (prefix_len test xs) xs) ≡ true
front_all test [] = refl
front_all test (x ∷ xs) =
    elim (test x) as (λ (v : Bool). test x ≡ v → list_all test (take (cond v (1 + prefix_len test xs) 0) (x ∷ xs)) ≡ true) [
      | true ↦ λ h. let e : 1 + prefix_len test xs ≡ suc (prefix_len test xs) = omega arith in rw (e, h) (front_all test xs)
      | false ↦ λ h. refl
    ] refl

-- a digit is a byte from 48 to 57
pub digit_means : (byte : ℕ) → is_ascii_digit byte ≡ true → (48 ≤ byte) × (byte ≤ 57)
digit_means byte h = (grind (arith, nat_tests), grind (arith, nat_tests))

pub digit_at : (digits : List ℕ) (k : ℕ) → list_all is_ascii_digit digits ≡ true → k < length digits → (48 ≤ get_or digits k 0) × (get_or digits k 0 ≤ 57)
digit_at digits k all inside = digit_means (get_or digits k 0) (passes digits k all inside)
  where
    passes : (xs : List ℕ) (k : ℕ) → list_all is_ascii_digit xs ≡ true → k < length xs → is_ascii_digit (get_or xs k 0) ≡ true
    passes [] k all inside = absurd (omega arith)
    passes (x ∷ xs) zero all inside = (both _ _ all).0
    passes (x ∷ xs) (suc k) all inside = passes xs k (both _ _ all).1 (omega arith)

-- one more of 30 digits fits 128 bits
pub room_for_digit : (value start k len : ℕ) → ((few : ℕ) → start < 10 ^ few → value < 10 ^ (few + k)) → start < 10 ^ (30 - len) → len ≤ 30 → k < len → 10 * value + 9 < 2 ^ 128
room_for_digit value start k len small first few inside =
    let low = small (30 - len) first in
    let most : 10 ^ ((30 - len) + k) ≤ 10 ^ 29 = pow-le-pow_right {n = 10} (lit< tt) {i = (30 - len) + k} {j = 29} (omega arith) in
    let room : 10 ^ 30 < 2 ^ 128 = lit< tt in
    omega arith

-- an exponent with a minus, and one without
pub exponent_below : (text : List ℕ) → has_minus (drop 1 text) ≡ true → exponent_value text ≡ neg_ℤ (pos (digits_value (behind_sign (drop 1 text))))
unfolding exponent_value
exponent_below text h = ap (λ (b : Bool). cond b (neg_ℤ (pos (digits_value (behind_sign (drop 1 text))))) (pos (digits_value (behind_sign (drop 1 text))))) h

pub exponent_above : (text : List ℕ) → has_minus (drop 1 text) ≡ false → exponent_value text ≡ pos (digits_value (behind_sign (drop 1 text)))
unfolding exponent_value
exponent_above text h = ap (λ (b : Bool). cond b (neg_ℤ (pos (digits_value (behind_sign (drop 1 text))))) (pos (digits_value (behind_sign (drop 1 text))))) h

-- signs in 32 bits
pub as_signed : (x v : ℕ) → x ≡ v → x ≤ 99 → to_z w32 x ≡ pos v
as_signed x v e small = omega (arith, ints)

pub negated : (x v : ℕ) → x ≡ v → x ≤ 99 → to_z w32 (of_z w32 (pos 0 -ℤ to_z w32 x)) ≡ neg_ℤ (pos v)
negated x v e small = omega (arith, ints)

-- The faults of a text that is no number, and the number of one that is.
module _ (text : List ℕ) where
  pub is_bad_byte : may_be_exponent (tail text) ≡ false → number_of text ≡ Err (BadByte (length text - length (tail text)))
  unfolding number_duties
  is_bad_byte h = judged_err (number_duties text) (number_value text) _ (this_fails _ _ _ (unless_fails _ _ h))

  pub is_empty : may_be_exponent (tail text) ≡ true → length (digits text) ≡ 0 → number_of text ≡ Err Empty
  unfolding number_duties
  is_empty h none =
      judged_err (number_duties text) (number_value text) _
      (this_met _ _ (unless_holds _ _ h) ∙ this_fails _ _ _ (unless_fails _ _ (leb_fails 1 (length (digits text)) (omega arith))))

  pub has_too_many : may_be_exponent (tail text) ≡ true → 30 < length (digits text) → number_of text ≡ Err TooManyDigits
  unfolding number_duties
  has_too_many h many =
      judged_err (number_duties text) (number_value text) _
      (this_met _ _ (unless_holds _ _ h)
      ∙ (this_met _ _ (unless_holds _ _ (leb_holds 1 (length (digits text)) (omega arith)))
      ∙ this_fails _ _ _ (unless_fails _ _ (leb_fails (length (digits text)) 30 many))))

  pub has_bad_exponent : may_be_exponent (tail text) ≡ true → 1 ≤ length (digits text) → length (digits text) ≤ 30 → is_exponent (tail text) ≡ false → number_of text ≡ Err Exponent
  unfolding number_duties
  has_bad_exponent h some few fails =
      judged_err (number_duties text) (number_value text) _
      (this_met _ _ (unless_holds _ _ h)
      ∙ (this_met _ _ (unless_holds _ _ (leb_holds 1 (length (digits text)) some))
      ∙ (this_met _ _ (unless_holds _ _ (leb_holds (length (digits text)) 30 few))
      ∙ this_fails _ _ _ (unless_fails _ _ fails))))

  pub is_number : may_be_exponent (tail text) ≡ true → 1 ≤ length (digits text) → length (digits text) ≤ 30 → is_exponent (tail text) ≡ true → number_of text ≡ Ok (number_value text)
  unfolding number_duties
  is_number h some few holds =
      judged_ok (number_duties text) (number_value text)
      (this_met _ _ (unless_holds _ _ h)
      ∙ (this_met _ _ (unless_holds _ _ (leb_holds 1 (length (digits text)) some))
      ∙ (this_met _ _ (unless_holds _ _ (leb_holds (length (digits text)) 30 few))
      ∙ (this_met _ _ (unless_holds _ _ holds) ∙ none_left))))

-- the digits before the point leave room for those behind it
pub digits_fit : (value whole fraction : ℕ) → value < 10 ^ (0 + whole) → whole + fraction ≤ 30 → value < 10 ^ (30 - fraction)
digits_fit value whole fraction small few =
    let most : 10 ^ (0 + whole) ≤ 10 ^ (30 - fraction) = pow-le-pow_right {n = 10} (lit< tt) {i = 0 + whole} {j = 30 - fraction} (omega arith) in
    omega arith

-- exponent and point together, in 32 bits
pub exponent_sum : (power : ℤ) (places : ℕ) → places ≤ 30 → negsuc 98 ≤ℤ power → power ≤ℤ pos 99 → to_z w32 (of_z w32 (to_z w32 (of_z w32 power) -ℤ to_z w32 places)) ≡ power -ℤ pos places
exponent_sum power places few least most = omega (arith, ints)
