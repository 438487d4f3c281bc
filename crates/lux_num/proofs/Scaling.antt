-- A whole number times a power of ten below 1.
use Rattle.std.proofs.Common.{◌≡◌, ◌≢◌, ℕ, Bool, Option, Some, None, zero, suc, ◌+◌, ◌-◌, ◌*◌, ◌/◌, ◌%◌, ◌<◌, ◌≤◌, ◌^◌, true, false, ℤ, pos, negsuc, ◌<ℤ◌, ◌+ℤ◌, refl, lit<, inl, inr, subst, mul_assoc, ap, sym, ◌∙◌, arith, leb, eqb, not, add-one, lit≤}
use Rattle.std.specs.Prelude.{unsigned_abs, nat_le, ◌==◌, if◌then◌else◌, IfSome, IfNone}
use Rattle.std.proofs.lemmas.Int.{ints}
use Rattle.std.proofs.Math.Nat.{pow-le-pow_right, mul-le-mul_left, mul-le-mul_right, div-le_of_le-mul, lt-mul-div-succ}
use Rattle.lux_num.specs.declared.decimal.Decimal.{Decimal}
use Rattle.lux_num.specs.Scaled.{scaled_value, is_scaled_within, is_scaled_whole, cut_value, fixed_value, is_at_most}
use Rattle.std.proofs.Math.Nat.{mod-eq_of_lt}
use Rattle.std.proofs.lemmas.Nat.{pow-add}
use Rattle.std.proofs.lemmas.Bool.{ne_eqb, cases_lt}
use Rattle.lux_num.proofs.Outcomes.{leb_holds, leb_fails, leb_means, leb_denies}
use Rattle.lux_num.proofs.TenPowers.{power_positive}

-- cut, tested and whole
pub record IsLowered (number : ℕ) (power : ℤ) : Type 0 where
  pub cut : scaled_value number power ≡ number / 10 ^ unsigned_abs power
  pub within : (most : ℕ) → is_scaled_within most number power ≡ nat_le number (most * 10 ^ unsigned_abs power)
  pub exact : is_scaled_whole number power ≡ (number % 10 ^ unsigned_abs power == 0)
  pub small : is_scaled_within (10 ^ 38) number power ≡ true

pub lowered_is : (number : ℕ) (power : ℤ) → number < 2 ^ 128 → power <ℤ pos 0 → IsLowered number power
unfolding scaled_value is_scaled_within is_scaled_whole
lowered_is number (pos n) fits h = absurd (omega (arith, ints))
lowered_is number (negsuc n) fits h =
    let e : n + 1 ≡ suc n = add-one n in
    let ten : 10 ^ 1 ≤ 10 ^ (n + 1) = pow-le-pow_right {n = 10} (lit< tt) {i = 1} {j = n + 1} (omega arith) in
    let times : 10 ^ 38 * 10 ≤ 10 ^ 38 * 10 ^ (n + 1) = mul-le-mul_left (10 ^ 38) ten in
    let past : 2 ^ 128 < 10 ^ 38 * 10 = lit< tt in
    record {
      cut = ap (λ (k : ℕ). number / 10 ^ k) e;
      within = λ most. ap (λ (k : ℕ). nat_le number (most * 10 ^ k)) e;
      exact = ap (λ (k : ℕ). number % 10 ^ k == 0) e;
      small = leb_holds number (10 ^ 38 * 10 ^ (n + 1)) (omega arith);
    }

-- past 128 bits only 0 is a multiple
pub zero_test : (n d : ℕ) → n < d → (n % d == 0) ≡ (n == 0)
zero_test n d h = let e : n % d ≡ n = mod-eq_of_lt h in ap (λ (k : ℕ). k == 0) e

pub below_times : (n most d : ℕ) → n ≢ 0 → n < d → not (eqb most 0) ≡ leb n (most * d)
below_times n zero d some h = let e : zero * d ≡ 0 = omega arith in sym (rw e (leb_fails n 0 (omega arith)))
below_times n (suc most) d some h = let e : eqb (suc most) 0 ≡ false = ne_eqb (suc most) 0 (λ z. omega arith) in rw e (sym (leb_holds n (suc most * d) (omega arith)))

-- a number times a power of ten is at most a limit, cut and uncut
pub record IsScaledBelow (limit number : ℕ) (power : ℤ) : Type 0 where
  pub within : is_scaled_within limit number power ≡ true
  pub cut : scaled_value number power ≤ limit

within_raised : (limit number n : ℕ) → number * 10 ^ n ≤ limit → IsScaledBelow limit number (pos n)
unfolding is_scaled_within scaled_value
within_raised limit number n h = record { within = leb_holds (number * 10 ^ n) limit h; cut = h }

within_lowered : (limit number n : ℕ) → number ≤ limit * 10 ^ (n + 1) → IsScaledBelow limit number (negsuc n)
unfolding is_scaled_within scaled_value
within_lowered limit number n h = record {
  within = leb_holds number (limit * 10 ^ (n + 1)) h;
  cut = div-le_of_le-mul (10 ^ (n + 1)) (let e : number ≤ 10 ^ (n + 1) * limit = omega arith in e);
}

-- where a number is at most `most`, it is times a power of ten at most `most` times that power
pub scaled_limit : (most number places : ℕ) (power : ℤ) → is_scaled_within most number power ≡ true → IsScaledBelow (most * 10 ^ places) number (power +ℤ pos places)
unfolding is_scaled_within
scaled_limit most number places (pos n) h =
    let low = leb_means (number * 10 ^ n) most h in
    let times : number * 10 ^ n * 10 ^ places ≤ most * 10 ^ places = mul-le-mul_right (10 ^ places) low in
    let split : 10 ^ (n + places) ≡ 10 ^ n * 10 ^ places = pow-add 10 n places in
    within_raised (most * 10 ^ places) number (n + places) (rw split (omega arith))
scaled_limit most number places (negsuc n) h =
    let low = leb_means number (most * 10 ^ (n + 1)) h in
    elim (cases_lt n places) [
      | inl short ↦ product_with_power most number places n (places - (n + 1)) low (omega arith)
      | inr long ↦ quotient_by_power most number places n (n - places) low (omega arith)
    ]
  where
    product_with_power : (most number places n rest : ℕ) → number ≤ most * 10 ^ (n + 1) → places ≡ (n + 1) + rest → IsScaledBelow (most * 10 ^ places) number (negsuc n +ℤ pos places)
    product_with_power most number places n rest low e =
        let power : negsuc n +ℤ pos places ≡ pos rest = omega (arith, ints) in
        let times : number * 10 ^ rest ≤ most * 10 ^ (n + 1) * 10 ^ rest = mul-le-mul_right (10 ^ rest) low in
        let split : 10 ^ places ≡ 10 ^ (n + 1) * 10 ^ rest = ap (λ (k : ℕ). 10 ^ k) e ∙ pow-add 10 (n + 1) rest in
        let whole : most * 10 ^ places ≡ most * 10 ^ (n + 1) * 10 ^ rest = ap (λ (k : ℕ). most * k) split ∙ sym (mul_assoc most (10 ^ (n + 1)) (10 ^ rest)) in
        subst (λ (p : ℤ). IsScaledBelow (most * 10 ^ places) number p) (sym power) (within_raised (most * 10 ^ places) number rest (omega arith))

    quotient_by_power : (most number places n rest : ℕ) → number ≤ most * 10 ^ (n + 1) → n ≡ places + rest → IsScaledBelow (most * 10 ^ places) number (negsuc n +ℤ pos places)
    quotient_by_power most number places n rest low e =
        let power : negsuc n +ℤ pos places ≡ negsuc rest = omega (arith, ints) in
        let same : n + 1 ≡ places + (rest + 1) = omega arith in
        let split : 10 ^ (n + 1) ≡ 10 ^ places * 10 ^ (rest + 1) = ap (λ (k : ℕ). 10 ^ k) same ∙ pow-add 10 places (rest + 1) in
        let whole : most * 10 ^ (n + 1) ≡ most * 10 ^ places * 10 ^ (rest + 1) = ap (λ (k : ℕ). most * k) split ∙ sym (mul_assoc most (10 ^ places) (10 ^ (rest + 1))) in
        subst (λ (p : ℤ). IsScaledBelow (most * 10 ^ places) number p) (sym power) (within_lowered (most * 10 ^ places) number rest (omega arith))

-- a number that exceeds a limit uncut reaches it cut
pub past_limit : (limit number : ℕ) (power : ℤ) → is_scaled_within limit number power ≡ false → limit ≤ scaled_value number power
unfolding is_scaled_within scaled_value
past_limit limit number (pos n) h = let past = leb_denies (number * 10 ^ n) limit h in omega arith
past_limit limit number (negsuc n) h =
    let past = leb_denies number (limit * 10 ^ (n + 1)) h in
    le-div_of_mul-le limit number (10 ^ (n + 1)) (power_positive (n + 1)) (omega arith)
  where
    le-div_of_mul-le : (k n d : ℕ) → 0 < d → k * d ≤ n → k ≤ n / d
    le-div_of_mul-le k n d some h =
        let up : n < d * (n / d + 1) = lt-mul-div-succ n some in
        elim (cases_lt (n / d) k) [
          | inl low ↦ let times : (n / d + 1) * d ≤ k * d = mul-le-mul_right d (omega arith) in absurd (omega arith)
          | inr high ↦ high
        ]

-- what a fixed number is, and where there is none
pub fixed_some : (number : Decimal) (places : ℕ) (r : Option ℕ) → r ≡ fixed_value number places → IfSome r (λ value. value ≡ cut_value number places)
fixed_some number places r h = rw h (by_test (is_scaled_within (10 ^ 38) number.mantissa (number.exponent +ℤ pos places)))
  where
    by_test : (b : Bool) → IfSome (if b then Some (cut_value number places) else None) (λ value. value ≡ cut_value number places)
    by_test true = refl
    by_test false = tt

pub fixed_none : (number : Decimal) (places : ℕ) (r : Option ℕ) → r ≡ fixed_value number places → IfNone r (10 ^ 38 ≤ cut_value number places)
fixed_none number places r h = rw h (by_test (is_scaled_within (10 ^ 38) number.mantissa (number.exponent +ℤ pos places)) refl)
  where
    by_test : (b : Bool) → is_scaled_within (10 ^ 38) number.mantissa (number.exponent +ℤ pos places) ≡ b → IfNone (if b then Some (cut_value number places) else None) (10 ^ 38 ≤ cut_value number places)
    by_test true e = tt
    by_test false e = past_limit (10 ^ 38) number.mantissa (number.exponent +ℤ pos places) e

within_more : (limit more number : ℕ) (power : ℤ) → limit ≤ more → is_scaled_within limit number power ≡ true → is_scaled_within more number power ≡ true
unfolding is_scaled_within
within_more limit more number (pos n) le h = let low = leb_means (number * 10 ^ n) limit h in leb_holds (number * 10 ^ n) more (omega arith)
within_more limit more number (negsuc n) le h =
    let low = leb_means number (limit * 10 ^ (n + 1)) h in
    let times = mul-le-mul_right (10 ^ (n + 1)) le in
    leb_holds number (more * 10 ^ (n + 1)) (omega arith)

-- a number of at most 64 bits is fixed to nine places
pub fixed_limited : (most : ℕ) (number : Decimal) (places : ℕ) → most < 2 ^ 64 → places ≤ 9 → is_at_most most number ≡ true → (fixed_value number places ≡ Some (cut_value number places)) × (cut_value number places ≤ most * 10 ^ places)
fixed_limited most number places small few h =
    let limit = scaled_limit most number.mantissa places number.exponent h in
    let power : 10 ^ places ≤ 10 ^ 9 = pow-le-pow_right {n = 10} (lit< tt) {i = places} {j = 9} few in
    let times : most * 10 ^ places ≤ 2 ^ 64 * 10 ^ 9 = mul-le-mul_both most (10 ^ places) (2 ^ 64) (10 ^ 9) (omega arith) power in
    let room : 2 ^ 64 * 10 ^ 9 ≤ 10 ^ 38 = lit≤ tt in
    let fits = within_more (most * 10 ^ places) (10 ^ 38) number.mantissa (number.exponent +ℤ pos places) (omega arith) limit.within in
    (rw fits refl, limit.cut)
  where
    mul-le-mul_both : (a b c d : ℕ) → a ≤ c → b ≤ d → a * b ≤ c * d
    mul-le-mul_both a b c d left right = omega (arith, mul-le-mul_right b left, mul-le-mul_left c right)
