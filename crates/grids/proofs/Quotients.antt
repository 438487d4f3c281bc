-- The quotient by a square, from below and then exactly.
use Rattle.std.proofs.Common.{◌≡◌, ℕ, ◌*◌, ◌/◌, ◌<◌, ◌≤◌, arith}
use Rattle.std.proofs.Math.Nat.{le_of_mul-le-mul_right}
use Rattle.std.proofs.lemmas.Nat.{mul-le, div-add-mod'}

-- a cut quotient, multiplied again
pub times-le : (n k : ℕ) → n / k * k ≤ n
times-le n k = let cut = div-add-mod' n k in omega arith

pub below_by : (q n k : ℕ) → q ≡ n / k → q * k ≤ n
below_by q n k is = let le = times-le n k in rw is le

-- A quotient by the square of a number, by its reciprocal in parts of 2^64: all is cut, so the product is no greater than
-- the true quotient.
pub reciprocal-le : (top square reciprocal scale a b q : ℕ) → reciprocal ≡ 18446744073709551615 / square → a * 18446744073709551616 ≤ top * reciprocal * (8 * scale)
    → b * 18446744073709551616 ≤ a * reciprocal → q * 8 ≤ b → q * (square * square) ≤ scale * top
reciprocal-le top square reciprocal scale a b q reciprocal_is a_le b_le q_le =
    let part : reciprocal * square ≤ 18446744073709551616 = rw reciprocal_is (let le = times-le 18446744073709551615 square in omega arith) in
    let s : ℕ = reciprocal * square in
    let squares : s * s ≤ 18446744073709551616 * 18446744073709551616 = mul-le s s 18446744073709551616 18446744073709551616 part part in
    let whole : scale * top * (s * s) ≤ scale * top * (18446744073709551616 * 18446744073709551616) = mul-le (scale * top) (s * s) (scale * top) _ (omega arith) squares in
    let by_a : a * 18446744073709551616 * (reciprocal * (square * square)) ≤ top * reciprocal * (8 * scale) * (reciprocal * (square * square)) = mul-le _ (reciprocal * (square * square)) _ _ a_le (omega arith) in
    let by_b : b * 18446744073709551616 * (square * square) ≤ a * reciprocal * (square * square) = mul-le _ (square * square) _ _ b_le (omega arith) in
    let by_q : q * 8 * (square * square) ≤ b * (square * square) = mul-le _ (square * square) _ _ q_le (omega arith) in
    le_of_mul-le-mul_right {k = 8 * (18446744073709551616 * 18446744073709551616)} (omega arith) (omega arith)

-- it is at most the scale, where a part of the divisor's root is divided
pub quotient-le : (scale top square q : ℕ) → 0 < square → top ≤ square → q * (square * square) ≤ scale * top → q * square ≤ scale
quotient-le scale top square q some within le =
    let more : scale * top ≤ scale * square = mul-le scale top scale square (omega arith) within in
    le_of_mul-le-mul_right {k = square} (omega arith) some
