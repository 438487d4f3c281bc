-- What a point gets of a patch that it sees, and of one that it doesn't.
use Rattle.std.proofs.Common.{◌≡◌, ℕ, ◌*◌, ◌/◌, ◌<◌, ◌≤◌, ◌⊎◌, inl, inr, ℤ, true, false, List, refl, arith}
use Rattle.std.proofs.lemmas.Bool.{cases_lt, lt-ltb, le-ltb, ltb-false, and_from, and_left, and_right}
use Rattle.std.proofs.lemmas.Nat.{mul-le}
use Rattle.room_patches.specs.declared.patch.Patch.{Patch}
use Rattle.room_patches.specs.Places.{squared_distance}
use Rattle.room_patches.specs.Patches.{in_front}
use Rattle.grids.specs.GridPoint.{height_over, is_seen, coefficient}
use Rattle.grids.specs.Validity.{is_too_near}
use Rattle.grids.proofs.Quotients.{quotient-le}

-- a product is within what both squares are within
pub product-le : (a b r : ℕ) → a * a ≤ r → b * b ≤ r → a * b ≤ r
product-le a b r a_le b_le =
    elim (cases_lt a b) [
      | inl less ↦ let up = mul-le a b b b (omega arith) (omega arith) in omega arith
      | inr more ↦ let up = mul-le a b a a (omega arith) (omega arith) in omega arith
    ]

module _ (patch : Patch) (point : List ℤ) (a b : ℕ) (a_is : a ≡ in_front patch point) (b_is : b ≡ height_over point patch.centre) where
  pub unseen : (a ≡ 0) ⊎ (b ≡ 0) → 0 ≡ coefficient patch point
  unfolding coefficient
  unseen (inl e) = rw (and_left _ _ (le-ltb 0 (in_front patch point) (omega arith))) refl
  unseen (inr e) = rw (and_right _ _ (le-ltb 0 (height_over point patch.centre) (omega arith))) refl

  module _ (some_a : 0 < a) (some_b : 0 < b) (r : ℕ) (r_is : r ≡ squared_distance patch.centre point) where
    visible : is_seen patch point ≡ true
    visible = and_from _ _ (lt-ltb 0 (in_front patch point) (omega arith)) (lt-ltb 0 (height_over point patch.centre) (omega arith))

    pub seen : (q : ℕ) → q ≡ 1273239544000000000 * (a * b) / (r * r) → q ≡ coefficient patch point
    unfolding coefficient
    seen q is =
        let same : 1273239544000000000 * (a * b) ≡ 1273239544000000000 * a * b = omega arith in
        rw visible (rw (is, same) (λ k. 1273239544000000000 * a_is k * b_is k / (r_is k * r_is k)))

    -- a patch that is seen is no nearer than the least distance
    pub far : is_too_near point patch ≡ false → 40000 ≤ r
    far apart = let away = ltb-false (squared_distance patch.centre point) 40000 (rw visible at apart) in omega arith

    -- so its coefficient is limited
    pub coefficient-le : is_too_near point patch ≡ false → a * b ≤ r → (q : ℕ) → q * (r * r) ≤ 1273239544000000000 * (a * b) → q ≤ 31830988600000
    coefficient-le apart within q le =
        let away = far apart in
        let by_root = quotient-le 1273239544000000000 (a * b) r q (omega arith) within le in
        let least = mul-le q 40000 q r (omega arith) away in
        omega arith
