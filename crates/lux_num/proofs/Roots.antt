-- Newton's steps towards a square root, and quotients rounded up.
use Rattle.std.proofs.Common.{◌≡◌, ◌≢◌, ℕ, zero, suc, ◌+◌, ◌-◌, ◌*◌, ◌/◌, ◌%◌, ◌<◌, ◌≤◌, ◌^◌, inl, inr, Some, true, false, eqb, leb, ltb, refl, sym, arith, lit<}
use Rattle.std.proofs.Math.Nat.{lt-mul-div-succ, mul-le-mul_left, mul-le-mul_right, div-mul-le_self, div-eq_of_lt-le, pow-le-pow_right, mod-eq_of_lt}
use Rattle.std.proofs.lemmas.Nat.{pow-add, pow_pos}
use Rattle.std.proofs.lemmas.Bool.{cases_lt, ne_eqb, le-leb, lt-leb, lt-ltb}
use Rattle.laws.proofs.Greatest.{greatest-is}
use Rattle.lux_num.specs.Quotients.{quotient_up, root}

square_mono : (a b : ℕ) → a ≤ b → a * a ≤ b * b
square_mono a b h =
    let left : a * a ≤ a * b = mul-le-mul_left a h in
    let right : a * b ≤ b * b = mul-le-mul_right b h in
    omega arith

-- four times a product is no more than the square of the sum
product_below : (a b : ℕ) → 4 * (a * b) ≤ (a + b) * (a + b)
product_below a b =
    elim (cases_lt a b) [
      | inl h ↦ ordered a b (b - a) (omega arith)
      | inr h ↦ let swapped = ordered b a (a - b) (omega arith) in omega arith
    ]
  where
    ordered : (a b d : ℕ) → b ≡ a + d → 4 * (a * b) ≤ (a + b) * (a + b)
    ordered a b d e = rw e (omega arith)

-- a step stays above the root
pub step_above : (x root : ℕ) → 0 < root → x < ((root + x / root) / 2 + 1) * ((root + x / root) / 2 + 1)
step_above x root some =
    let q = x / root in
    let n = (root + x / root) / 2 + 1 in
    let up : x < root * (x / root + 1) = lt-mul-div-succ x some in
    let four = product_below root (x / root + 1) in
    let twice : root + (x / root + 1) ≤ 2 * n = omega arith in
    let squares : (root + (x / root + 1)) * (root + (x / root + 1)) ≤ (2 * n) * (2 * n) = square_mono (root + (x / root + 1)) (2 * n) twice in
    quarter x n (omega arith)
  where
    quarter : (x n : ℕ) → 4 * x < (2 * n) * (2 * n) → x < n * n
    quarter x n h = omega arith

-- a step stays above 0
pub step_positive : (x root : ℕ) → x ≢ 0 → 0 < root → 0 < (root + x / root) / 2
step_positive x root some positive =
    let above = step_above x root positive in
    elim (cases_lt 0 ((root + x / root) / 2)) [
      | inl h ↦ h
      | inr h ↦ let e : (root + x / root) / 2 ≡ 0 = omega arith in let low : x < (0 + 1) * (0 + 1) = rw e at above in absurd (omega arith)
    ]

-- a step is no more than a little above the number it comes from
pub step_small : (x root : ℕ) → 0 < root → x < (root + 1) * (root + 1) → x / root ≤ root + 2
step_small x root some h =
    let below : x / root * root ≤ x = div-mul-le_self x root in
    elim (cases_lt (root + 2) (x / root)) [
      | inl past ↦ let times : (root + 3) * root ≤ x / root * root = mul-le-mul_right root (omega arith) in absurd (omega arith)
      | inr low ↦ low
    ]

-- where a step doesn't fall, the root is reached
pub reached : (x root : ℕ) → 0 < root → root ≤ (root + x / root) / 2 → root * root ≤ x
reached x root some h =
    let below : x / root * root ≤ x = div-mul-le_self x root in
    let times : root * root ≤ x / root * root = mul-le-mul_right root (omega arith) in
    omega arith

-- the first step starts above the root
pub starts_above : (x log : ℕ) → x < 2 * 2 ^ log → x < (2 ^ (log / 2 + 1) + 1) * (2 ^ (log / 2 + 1) + 1)
starts_above x log h =
    let s = 2 ^ (log / 2 + 1) in
    let square : 2 ^ ((log / 2 + 1) + (log / 2 + 1)) ≡ 2 ^ (log / 2 + 1) * 2 ^ (log / 2 + 1) = pow-add 2 (log / 2 + 1) (log / 2 + 1) in
    let one : 2 ^ (log + 1) ≡ 2 ^ log * 2 ^ 1 = pow-add 2 log 1 in
    let more : 2 ^ (log + 1) ≤ 2 ^ ((log / 2 + 1) + (log / 2 + 1)) = pow-le-pow_right {n = 2} (lit< tt) {i = log + 1} {j = (log / 2 + 1) + (log / 2 + 1)} (omega arith) in
    above x (2 ^ (log / 2 + 1)) (omega arith)
  where
    above : (x s : ℕ) → x < s * s → x < (s + 1) * (s + 1)
    above x s h = omega arith

-- a quotient rounded up
pub exact_up : (n d : ℕ) → 0 < d → n / d * d ≡ n → (n + (d - 1)) / d ≡ n / d
exact_up n d some e = div-eq_of_lt-le d (omega arith) (let up : n / d * d + (d - 1) < n / d * d + d = omega arith in omega arith)

pub inexact_up : (n d : ℕ) → 0 < d → n / d * d ≢ n → (n + (d - 1)) / d ≡ n / d + 1
inexact_up n d some e =
    let below : n / d * d ≤ n = div-mul-le_self n d in
    let up : n < d * (n / d + 1) = lt-mul-div-succ n some in
    div-eq_of_lt-le d (omega arith) (omega arith)

-- the number that the first step starts from
pub first_step : (log : ℕ) → log < 64 → (1 * 2 ^ (log / 2 + 1) % 2 ^ 64 ≡ 2 ^ (log / 2 + 1)) × (0 < 2 ^ (log / 2 + 1)) × (2 ^ (log / 2 + 1) ≤ 2 ^ 32)
first_step log h =
    let small : 2 ^ (log / 2 + 1) ≤ 2 ^ 32 = pow-le-pow_right {n = 2} (lit< tt) {i = log / 2 + 1} {j = 32} (omega arith) in
    let one : 1 * 2 ^ (log / 2 + 1) ≡ 2 ^ (log / 2 + 1) = omega arith in
    let room : 2 ^ 32 < 2 ^ 64 = lit< tt in
    (rw one (mod-eq_of_lt (omega arith)), pow_pos (log / 2 + 1), small)

pub up_is : (a b d q : ℕ) → a * b < 2 ^ 128 → 0 < d → q < 2 ^ 128 → (a * b + (d - 1)) / d ≡ q → Some q ≡ quotient_up a b d
up_is a b d q product some fits e =
    let first : ltb (a * b) (2 ^ 128) ≡ true = lt-ltb (a * b) (2 ^ 128) product in
    let second : eqb d 0 ≡ false = ne_eqb d 0 (λ z. omega arith) in
    let third : ltb q (2 ^ 128) ≡ true = lt-ltb q (2 ^ 128) fits in
    rw (first, second, e, third) refl

-- a quotient that isn't exact is below the number
pub quotient_below : (n d : ℕ) → 0 < d → n / d * d ≢ n → n / d + 1 ≤ n
quotient_below n d some e =
    let below : n / d * d ≤ n = div-mul-le_self n d in
    let times : n / d * 1 ≤ n / d * d = mul-le-mul_left (n / d) some in
    omega arith

-- the root is the number whose square is at most that number, where the next square is above it
pub root_is : (x q : ℕ) → q * q ≤ x → x < (q + 1) * (q + 1) → q ≡ root x
unfolding root
root_is x q square next = sym (greatest-is x (λ candidate. leb (candidate * candidate) x) q (below x q square) (le-leb _ _ square) (λ k h _. lt-leb _ _ (past k h)))
  where
    below : (x q : ℕ) → q * q ≤ x → q ≤ x
    below x zero h = omega arith
    below x (suc q) h = let up : suc q * 1 ≤ suc q * suc q = mul-le-mul_left (suc q) (omega arith) in omega arith

    past : (k : ℕ) → q < k → x < k * k
    past k h = let up = square_mono (q + 1) k (omega arith) in omega arith
