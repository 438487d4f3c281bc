-- What the flux from one patch to another weighs, and how much at most.
use Rattle.std.proofs.Common.{◌≡◌, ℕ, ◌*◌, ◌/◌, ◌<◌, ◌≤◌, ◌⊎◌, inl, inr, refl, ap, ◌∙◌, arith}
use Rattle.std.proofs.lemmas.Bool.{cases_lt, lt-ltb, le-ltb, and_from, and_left, and_right}
use Rattle.std.proofs.lemmas.Nat.{mul-le, div_below}
use Rattle.room_patches.specs.declared.patch.Patch.{Patch}
use Rattle.room_patches.specs.Places.{squared_distance}
use Rattle.room_patches.specs.Patches.{IsPatch}
use Rattle.room_patches.proofs.Distances.{in_front_squared_le, squared_distance_comm}
use Rattle.transfer_shares.specs.Shares.{distance_ahead, weight}

module _ (from to : Patch) (a b : ℕ) (a_is : a ≡ distance_ahead from to) (b_is : b ≡ distance_ahead to from) where
  -- one of the two doesn't lie before the other's plane
  pub weightless : (a ≡ 0) ⊎ (b ≡ 0) → 0 ≡ weight from to
  unfolding weight
  weightless (inl e) = rw (and_left _ _ (le-ltb 0 (distance_ahead from to) (omega arith))) refl
  weightless (inr e) = rw (and_right _ _ (le-ltb 0 (distance_ahead to from) (omega arith))) refl

  module _ (some_a : 0 < a) (some_b : 0 < b) (r : ℕ) (r_is : r ≡ squared_distance from.centre to.centre) where
    pub weighty : (area : ℕ) → area ≡ to.area → 1000000000000000 * a * b * area / (r * r) ≡ weight from to
    unfolding weight
    weighty area area_is =
        rw (and_from _ _ (lt-ltb 0 (distance_ahead from to) (omega arith)) (lt-ltb 0 (distance_ahead to from) (omega arith)))
        (λ k. 1000000000000000 * a_is k * b_is k * area_is k / (r_is k * r_is k))

    -- the two distances and the area may be multiplied first
    pub weighty_by_product : (area top : ℕ) → area ≡ to.area → top ≡ a * b * area → 1000000000000000 * top / (r * r) ≡ weight from to
    weighty_by_product area top area_is top_is =
        let same : 1000000000000000 * top ≡ 1000000000000000 * a * b * area = omega arith in
        ap (λ (k : ℕ). k / (r * r)) same ∙ weighty area area_is

    module _ (valid_from : IsPatch from) (valid_to : IsPatch to) where
      -- two centres are no nearer than each of them is to the other's plane
      there-le : a * a ≤ r
      there-le = rw (a_is, r_is) (in_front_squared_le from to.centre valid_from)

      back-le : b * b ≤ r
      back-le = rw (b_is, r_is, squared_distance_comm from.centre to.centre) (in_front_squared_le to from.centre valid_to)

      pub apart : 0 < r * r
      apart =
          let one = mul-le 1 1 a a some_a some_a in
          let le = there-le in
          let some = mul-le 1 1 r r (omega arith) (omega arith) in
          omega arith

      both-le : (a < b) ⊎ (b ≤ a) → a * b ≤ r
      both-le (inl h) = let m = mul-le a b b b (omega arith) (omega arith) in let le = back-le in omega arith
      both-le (inr h) = let m = mul-le a b a a (omega arith) (omega arith) in let le = there-le in omega arith

      pub weight-le : (area : ℕ) → area ≡ to.area → 1000000000000000 * a * b * area / (r * r) ≤ 10000000000000000000000000
      weight-le area area_is =
          let limited = valid_to.limited in
          let one = mul-le 1 1 a a some_a some_a in
          let near = there-le in
          let top = mul-le (a * b) area r 10000000000 (both-le (cases_lt a b)) (omega arith) in
          let bottom = mul-le 1 r r r (omega arith) (omega arith) in
          let whole : 1000000000000000 * a * b * area < 10000000000000000000000001 * (r * r) = omega arith in
          let below = div_below (1000000000000000 * a * b * area) (r * r) 10000000000000000000000001 apart whole in
          omega arith

      pub weight_is-le : (area : ℕ) → area ≡ to.area → weight from to ≤ 10000000000000000000000000
      weight_is-le area area_is = let le = weight-le area area_is in let is = weighty area area_is in omega arith
