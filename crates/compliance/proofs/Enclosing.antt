-- The published ends enclose the exact values, and their verdicts are the exact ones.
use Rattle.std.proofs.Common.{◌≡◌, ℕ, suc, ◌+◌, ◌*◌, ◌<◌, ◌≤◌, ◌^◌, ◌⊎◌, ◌↔◌, eqb, leb, ltb, List, length, sum, inl, inr, refl, sym, ap, arith}
use Rattle.std.proofs.Math.Nat.{div-mul-le_self, le_of_mul-le-mul_right, lt_of_mul-lt-mul_right}
use Rattle.std.proofs.lemmas.Nat.{mul-le}
use Rattle.std.proofs.lemmas.Grind.{div_ceil_times}
use Rattle.std.proofs.lemmas.Bool.{cond_both, cond-true, cond-false, eqb-true, eqb-false, leb-true, ltb-true, le-leb, lt-leb}
use Rattle.std.proofs.lemmas.Bool.Decides.{nat_tests}
use Rattle.compliance.specs.declared.verdicts.Verdict.{Verdict}
use Rattle.compliance.specs.declared.verdicts.Verdict.TheVariants.{Pass, Fail, Undecided}
use Rattle.compliance.specs.Exact.{Fraction, IsBetween, LieWithin, ForAllWithin, least, exact_average, exact_uniformity, exact_verdict}
use Rattle.compliance.specs.Verdict.{AreIntervals, lows, highs, average_ends, uniformity_low, uniformity_high, uniformity_ends, published_verdict, IsJudged}
use Rattle.compliance.proofs.Sides.{length-within, sum-highs-le, sums-enclosed, leasts-enclosed, least-mean, le-min-mul, low-quotient-le, lows-within}

-- ---- the average
average-low : (q low s d n m : ℕ) → q * (n * 10 ^ 9) ≤ low * m → low * d ≤ s → q * (1000 * 10 ^ 6 * (d * n)) ≤ m * s
average-low q low s d n m below less =
    let left = mul-le (q * (n * 10 ^ 9)) d (low * m) d below (omega arith) in
    let right = mul-le (low * d) m s m less (omega arith) in
    omega arith

average-high : (q high s d n m : ℕ) → high * m ≤ q * (n * 10 ^ 9) → s ≤ high * d → m * s ≤ q * (1000 * 10 ^ 6 * (d * n))
average-high q high s d n m above more =
    let left = mul-le (high * m) d (q * (n * 10 ^ 9)) d above (omega arith) in
    let right = mul-le s m (high * d) m more (omega arith) in
    omega arith

pub average-enclosed : (m : ℕ) (points : List (ℕ × ℕ)) → AreIntervals points → ForAllWithin points (λ values d. IsBetween (average_ends m points) (exact_average m values d))
average-enclosed m points are values d within =
    let n = length points in
    let some = are.some in
    let (low, high) = sums-enclosed d points values within.enclosed in
    let below = div-mul-le_self (sum (lows points) * m) (n * 10 ^ 9) in
    let above = (div_ceil_times (sum (highs points) * m) (n * 10 ^ 9) (omega arith)).0 in
    rw (length-within d points values within.enclosed)
    (average-low _ (sum (lows points)) (sum values) d n m below low, average-high _ (sum (highs points)) (sum values) d n m above high)

average-some : (m : ℕ) (points : List (ℕ × ℕ)) → AreIntervals points → (values : List ℕ) (d : ℕ) → LieWithin points values d → 0 < (exact_average m values d).bottom
average-some m points are values d within =
    let some = are.some in
    let positive = within.positive in
    let same = length-within d points values within.enclosed in
    let product = mul-le 1 1 d (length values) (omega arith) (omega arith) in
    omega arith

-- ---- the uniformity
low-quotient : (q x y sum-high s d n : ℕ) → q * sum-high ≤ 1000 * x * n → x * d ≤ y → s ≤ sum-high * d → q * (d * s) ≤ 1000 * y * (d * n)
low-quotient q x y sum-high s d n below less more =
    let wide = mul-le q s q (sum-high * d) (omega arith) more in
    let scaled = mul-le (q * sum-high) d (1000 * x * n) d below (omega arith) in
    let least = mul-le (x * d) n y n less (omega arith) in
    let both = mul-le d (q * s) d (1000 * y * n) (omega arith) (omega arith) in
    omega arith

high-quotient : (q x y sum-low s d n : ℕ) → 1000 * x * n ≤ q * sum-low → y ≤ x * d → sum-low * d ≤ s → 1000 * y * (d * n) ≤ q * (d * s)
high-quotient q x y sum-low s d n above more less =
    let narrow = mul-le q (sum-low * d) q s (omega arith) less in
    let scaled = mul-le (1000 * x * n) d (q * sum-low) d above (omega arith) in
    let least = mul-le y n (x * d) n more (omega arith) in
    let both = mul-le d (1000 * y * n) d (q * s) (omega arith) (omega arith) in
    omega arith

pub low-whole : (points : List (ℕ × ℕ)) → AreIntervals points → uniformity_low points ≤ 1000
low-whole points are = cond_both (eqb (sum (highs points)) 0) 1000 _ (λ (q : ℕ). q ≤ 1000) (λ _. omega arith) (λ _. low-quotient-le points are)

module _ (points : List (ℕ × ℕ)) (are : AreIntervals points) (values : List ℕ) (d : ℕ) (within : LieWithin points values d) where
  sums : IsBetween (sum (lows points), sum (highs points)) (record { top = sum values; bottom = d })
  sums = sums-enclosed d points values within.enclosed

  leasts : IsBetween (least (lows points), least (highs points)) (record { top = least values; bottom = d })
  leasts = leasts-enclosed d points values within.enclosed

  -- where there is light, the uniformity is a quotient
  lit-low : (0 < sum values) → uniformity_low points * (d * sum values) ≤ 1000 * least values * (d * length points)
  lit-low some =
      cond_both (eqb (sum (highs points)) 0) 1000 _ (λ (q : ℕ). q * (d * sum values) ≤ 1000 * least values * (d * length points))
      (λ dark. let more = sums.1 in let none = ap (λ (x : ℕ). x * d) (eqb-true _ _ dark) in absurd (omega arith))
      (λ _. low-quotient _ (least (lows points)) (least values) (sum (highs points)) (sum values) d (length points)
      (div-mul-le_self (1000 * least (lows points) * length points) (sum (highs points))) leasts.0 sums.1)

  lit-whole : 1000 * least values * (d * length points) ≤ 1000 * (d * sum values)
  lit-whole =
      let mean = mul-le d (least values * length values) d (sum values) (omega arith) (least-mean values) in
      let same = ap (λ (n : ℕ). d * (least values * n)) (length-within d points values within.enclosed) in
      omega arith

  lit-high : 1000 * least values * (d * length points) ≤ uniformity_high points * (d * sum values)
  lit-high =
      cond_both (eqb (sum (lows points)) 0) 1000 _ (λ (q : ℕ). 1000 * least values * (d * length points) ≤ q * (d * sum values))
      (λ _. lit-whole)
      (λ lit.
      let some = eqb-false _ _ lit in
      let above = (div_ceil_times (1000 * least (highs points) * length points) (sum (lows points)) (omega arith)).0 in
      let quotient = high-quotient _ (least (highs points)) (least values) (sum (lows points)) (sum values) d (length points) above leasts.1 sums.0 in
      le-min-mul _ 1000 _ (d * sum values) lit-whole quotient)

  dark-high : sum values ≡ 0 → 1000 ≤ uniformity_high points
  dark-high dark =
      cond_both (eqb (sum (lows points)) 0) 1000 _ (λ (q : ℕ). 1000 ≤ q) (λ _. omega arith)
      (λ lit.
      let some = eqb-false _ _ lit in
      let positive = within.positive in
      let less = sums.0 in
      let light = mul-le 1 1 (sum (lows points)) d (omega arith) (omega arith) in
      absurd (omega arith))

  pub uniformity-enclosed : IsBetween (uniformity_ends points) (exact_uniformity values d)
  uniformity-enclosed =
      cond_both (eqb (sum values) 0) _ _ (IsBetween (uniformity_ends points))
      (λ dark. let low = low-whole points are in let high = dark-high (eqb-true _ _ dark) in (omega arith, omega arith))
      (λ lit. rw (length-within d points values within.enclosed) (lit-low (let some = eqb-false _ _ lit in omega arith), lit-high))

  pub uniformity-some : 0 < (exact_uniformity values d).bottom
  uniformity-some =
      cond_both (eqb (sum values) 0) _ _ (λ (f : Fraction). 0 < f.bottom) (λ _. omega arith)
      (λ lit.
      let some = eqb-false _ _ lit in
      let positive = within.positive in
      let product = mul-le 1 1 d (sum values) (omega arith) (omega arith) in
      omega arith)

-- ---- verdicts
decided : (limit : ℕ) (ends : ℕ × ℕ) (value : Fraction) → 0 < value.bottom → IsBetween ends value
    → (published_verdict limit ends ≡ Undecided) ⊎ (published_verdict limit ends ≡ exact_verdict limit value)
decided limit ends value some (low, high) =
    let Right : Verdict → Type 0 = λ verdict. (verdict ≡ Undecided) ⊎ (verdict ≡ exact_verdict limit value) in
    cond_both (leb limit ends.0) Pass _ Right
    (λ reached.
    let product = mul-le limit value.bottom ends.0 value.bottom (leb-true _ _ reached) (omega arith) in
    inr (sym (cond-true _ Pass Fail (le-leb _ _ (omega arith)))))
    (λ _. cond_both (ltb ends.1 limit) Fail Undecided Right
    (λ below.
    let product = mul-le (suc ends.1) value.bottom limit value.bottom (ltb-true _ _ below) (omega arith) in
    inr (sym (cond-false _ Pass Fail (lt-leb _ _ (omega arith)))))
    (λ _. inl refl))

open_where : (limit : ℕ) (ends : ℕ × ℕ) → (published_verdict limit ends ≡ Undecided) ↔ ((ends.0 < limit) × (limit ≤ ends.1))
open_where limit ends = grind (arith, nat_tests)

judged : (points : List (ℕ × ℕ)) (limit : ℕ) (exact : List ℕ → ℕ → Fraction) (ends : ℕ × ℕ)
    → ForAllWithin points (λ values d. 0 < (exact values d).bottom) → ForAllWithin points (λ values d. IsBetween ends (exact values d))
    → IsJudged points limit exact ends (published_verdict limit ends)
judged points limit exact ends some enclosed = record {
  encloses = enclosed;
  decides = λ values d within. decided limit ends (exact values d) (some values d within) (enclosed values d within);
  open_where = open_where limit ends;
}

pub average-judged : (m : ℕ) (points : List (ℕ × ℕ)) → AreIntervals points → (limit : ℕ) (ends : ℕ × ℕ) (verdict : Verdict)
    → ends ≡ average_ends m points → verdict ≡ published_verdict limit ends → IsJudged points limit (exact_average m) ends verdict
average-judged m points are limit ends verdict ends-is verdict-is =
    rw (verdict-is, ends-is) (judged points limit (exact_average m) (average_ends m points) (average-some m points are) (average-enclosed m points are))

pub uniformity-judged : (points : List (ℕ × ℕ)) → AreIntervals points → (limit : ℕ) (ends : ℕ × ℕ) (verdict : Verdict)
    → ends ≡ uniformity_ends points → verdict ≡ published_verdict limit ends → IsJudged points limit exact_uniformity ends verdict
uniformity-judged points are limit ends verdict ends-is verdict-is =
    rw (verdict-is, ends-is) (judged points limit exact_uniformity (uniformity_ends points) (uniformity-some points are) (uniformity-enclosed points are))

-- ---- the order of the ends: an exact value lies between them, as the low ends are exact values too
ordered : (ends : ℕ × ℕ) (value : Fraction) → 0 < value.bottom → IsBetween ends value → ends.0 ≤ ends.1
ordered ends value some (low, high) = le_of_mul-le-mul_right {k = value.bottom} (omega arith) some

low-ends-lie : (points : List (ℕ × ℕ)) → AreIntervals points → LieWithin points (lows points) 1
low-ends-lie points are = record { positive = omega arith; enclosed = lows-within points are.ordered }

pub average-ordered : (m : ℕ) (points : List (ℕ × ℕ)) → AreIntervals points → (average_ends m points).0 ≤ (average_ends m points).1
average-ordered m points are =
    let lie = low-ends-lie points are in
    ordered (average_ends m points) (exact_average m (lows points) 1) (average-some m points are (lows points) 1 lie) (average-enclosed m points are (lows points) 1 lie)

pub uniformity-ordered : (points : List (ℕ × ℕ)) → AreIntervals points → uniformity_low points ≤ uniformity_high points
uniformity-ordered points are =
    let lie = low-ends-lie points are in
    ordered (uniformity_ends points) (exact_uniformity (lows points) 1) (uniformity-some points are (lows points) 1 lie) (uniformity-enclosed points are (lows points) 1 lie)

pub average-bounded : (m : ℕ) (points : List (ℕ × ℕ)) → m ≤ 1000 → AreIntervals points → (average_ends m points).1 ≤ 10 ^ 24
average-bounded m points few are =
    let n = length points in
    let some = are.some in
    let all = sum-highs-le points are in
    let product = mul-le (sum (highs points)) m (n * 10 ^ 30) 1000 all few in
    let near = (div_ceil_times (sum (highs points) * m) (n * 10 ^ 9) (omega arith)).1 in
    let below = lt_of_mul-lt-mul_right (n * 10 ^ 9) {m = (average_ends m points).1} {n = 10 ^ 24 + 1} (omega arith) in
    omega arith
