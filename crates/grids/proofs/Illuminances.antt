-- How much light a luminaire sends to a point at most.
use Rattle.std.proofs.Common.{◌≡◌, ℕ, ◌+◌, ◌*◌, ◌/◌, ◌<◌, ◌≤◌, inl, inr, arith}
use Rattle.std.proofs.lemmas.Bool.{cases_lt}
use Rattle.std.proofs.lemmas.Nat.{mul-le, le-div}
use Rattle.direct_flux.proofs.Bounds.{received_flux_limited}
use Rattle.grids.proofs.Quotients.{times-le}

-- a ten-thousandth of a number has no more than that of its quotient
part-le : (whole part divisor most : ℕ) → 0 < divisor → 10000 * part ≡ whole → whole / divisor ≤ 10000 * most → part / divisor ≤ most
part-le whole part divisor most some is le =
    let cut = times-le part divisor in
    let back : 10000 * (part / divisor) ≤ whole / divisor = le-div (10000 * (part / divisor)) whole divisor some (omega arith) in
    omega arith

some_root : (root squared : ℕ) → 1 ≤ squared → squared * 1000000 < (root + 1) * (root + 1) → 1 ≤ root
some_root root squared some next =
    elim (cases_lt root 1) [
      | inl none ↦ let small : (root + 1) * (root + 1) ≤ 1 * 1 = mul-le (root + 1) (root + 1) 1 1 (omega arith) (omega arith) in absurd (omega arith)
      | inr h ↦ h
    ]

-- a square metre gets a ten-thousandth of what the largest patch would
pub received_light_limited : (intensity height squared root : ℕ) → intensity ≤ 1000000000000000 → 1 ≤ height → height * height ≤ squared → squared * 1000000 < (root + 1) * (root + 1)
    → 4000000000000 * intensity * height / (squared * root) ≤ 4000000000000000000000000
received_light_limited intensity height squared root bright some near next =
    let most = received_flux_limited intensity height squared 10000000000 root bright some near next (omega arith) in
    let one : 1 * 1 ≤ height * height = mul-le 1 1 height height some some in
    let over : 1 * 1 ≤ squared * root = mul-le 1 1 squared root (omega arith) (some_root root squared (omega arith) next) in
    part-le (4000000 * intensity * height * 10000000000) (4000000000000 * intensity * height) (squared * root) 4000000000000000000000000 (omega arith) (omega arith) most
