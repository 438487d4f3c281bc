-- What keeps all products in their words.
use Rattle.std.proofs.Common.{◌≡◌, ℕ, ◌+◌, ◌*◌, ◌/◌, ◌<◌, ◌≤◌, ◌^◌, inl, inr, List, length, get_or, sum, arith}
use Rattle.std.proofs.Math.Nat.{mul-le-mul, mul-le-mul_left, mul-le-mul_right, div-le_of_le-mul}
use Rattle.std.proofs.lemmas.Bool.{cases_lt}
use Rattle.std.proofs.lemmas.Nat.{mul-le}
use Rattle.std.proofs.lemmas.List.Sums.{get_or-le-sum_by}

pub squares_limited : (x y : ℕ) → x ≤ 200000 → y ≤ 200000 → x * x + y * y ≤ 80000000000
squares_limited x y hx hy = omega (arith, mul-le x x 200000 200000 hx hx, mul-le y y 200000 200000 hy hy)

pub root_fits : (root square : ℕ) → root * root ≤ square → square ≤ 80000000000000000 → root < 2 ^ 32
root_fits root square is limited =
    elim (cases_lt root (2 ^ 32)) [
      | inl low ↦ low
      | inr high ↦ let squares : 2 ^ 32 * 2 ^ 32 ≤ root * root = mul-le-mul high high in absurd (omega arith)
    ]

-- the root of a squared distance is no less than a thousand times the distance before a plane
root_reaches : (root distance squared : ℕ) → distance * distance ≤ squared → squared * 1000000 < (root + 1) * (root + 1) → 1000 * distance ≤ root
root_reaches root distance squared near next =
    elim (cases_lt root (1000 * distance)) [
      | inl low ↦ let squares : (root + 1) * (root + 1) ≤ (1000 * distance) * (1000 * distance) = mul-le-mul (omega arith) (omega arith) in absurd (omega arith)
      | inr high ↦ high
    ]

-- what is received is no more than at the least distance, one half-millimetre before the plane
pub received_flux_limited : (intensity distance squared area root : ℕ) → intensity ≤ 1000000000000000 → 1 ≤ distance → distance * distance ≤ squared → squared * 1000000 < (root + 1) * (root + 1) → area ≤ 10000000000
    → 4000000 * intensity * distance * area / (squared * root) ≤ 40000000000000000000000000000
received_flux_limited intensity distance squared area root bright some near next extended =
    let times : intensity * area ≤ 1000000000000000 * 10000000000 = mul-le-mul bright extended in
    let sent : intensity * area * distance ≤ 10000000000000000000000000 * distance = mul-le-mul_right distance (omega arith) in
    let reach = root_reaches root distance squared near next in
    let first : distance * 1 ≤ distance * distance = mul-le-mul_left distance some in
    let over : distance * 1000 ≤ squared * root = mul-le-mul (omega arith) (omega arith) in
    let same : 4000000 * intensity * distance * area ≡ 4000000 * (intensity * area * distance) = omega arith in
    rw same (div-le_of_le-mul (squared * root) (omega arith))

-- each of some numbers is at most their sum
pub below_sum : (xs : List ℕ) (k d most : ℕ) → sum xs ≤ most → k < length xs → get_or xs k d ≤ most
below_sum xs k d most h inside = omega (arith, get_or-le-sum_by (λ (x : ℕ). x) xs k d inside)
