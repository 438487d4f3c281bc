-- Powers of ten in 128 bits.
use Rattle.std.proofs.Common.{◌≡◌, ℕ, ◌+◌, ◌-◌, ◌*◌, ◌<◌, ◌≤◌, ◌^◌, ◌⊎◌, inl, inr, lit<, ap, sym, ◌∙◌, arith}
use Rattle.std.proofs.Math.Nat.{one-le-pow, pow-le-pow_right, mul-le-mul_right}
use Rattle.std.proofs.lemmas.Nat.{pow-add}

pub power_positive : (power : ℕ) → 0 < 10 ^ power
power_positive power = one-le-pow power 10 (lit< tt)

-- a number of 128 bits is below every power of ten above the 38th
pub below_power : (number power : ℕ) → number < 2 ^ 128 → 38 < power → number < 10 ^ power
below_power number power fits h =
    let most : 10 ^ 39 ≤ 10 ^ power = pow-le-pow_right {n = 10} (lit< tt) {i = 39} {j = power} (omega arith) in
    let past : 2 ^ 128 < 10 ^ 39 = lit< tt in
    omega arith

-- the 38th power of ten in two factors
pub split_power : (power : ℕ) → power ≤ 38 → 10 ^ (38 - power) * 10 ^ power ≡ 10 ^ 38
split_power power h = sym (pow-add 10 (38 - power) power) ∙ ap (λ (k : ℕ). 10 ^ k) (let e : (38 - power) + power ≡ 38 = omega arith in e)

pub raised_fits : (number power : ℕ) → power ≤ 38 → number ≤ 10 ^ (38 - power) → number * 10 ^ power ≤ 10 ^ 38
raised_fits number power h low =
    let times : number * 10 ^ power ≤ 10 ^ (38 - power) * 10 ^ power = mul-le-mul_right (10 ^ power) low in
    omega (arith, split_power power h)

pub raised_passes : (number power : ℕ) → 0 < number → (38 < power) ⊎ ((power ≤ 38) × (10 ^ (38 - power) < number)) → 10 ^ 38 < number * 10 ^ power
raised_passes number power some (inl h) =
    let most : 10 ^ 39 ≤ 10 ^ power = pow-le-pow_right {n = 10} (lit< tt) {i = 39} {j = power} (omega arith) in
    let times : 1 * 10 ^ power ≤ number * 10 ^ power = mul-le-mul_right (10 ^ power) (omega arith) in
    omega arith
raised_passes number power some (inr (h, past)) =
    let times : (10 ^ (38 - power) + 1) * 10 ^ power ≤ number * 10 ^ power = mul-le-mul_right (10 ^ power) (omega arith) in
    let positive = power_positive power in
    omega (arith, split_power power h)
