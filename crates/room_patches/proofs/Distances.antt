-- Distances of places, and how far a place lies before a patch's plane.
use Rattle.std.proofs.Common.{◌≡◌, ℕ, zero, suc, ◌+◌, ◌*◌, ◌≤◌, ℤ, pos, negsuc, ◌-ℤ◌, Bool, true, false, if◌then◌else◌, List, refl, ap, subst, ◌∙◌, arith}
use Rattle.std.specs.Prelude.{unsigned_abs}
use Rattle.std.proofs.lemmas.Int.{ints}
use mir.Syntax.{w32}
use mir.Val.{to_z, of_z}
use Rattle.std.proofs.lemmas.Nat.{mul-le}
use Rattle.room_patches.specs.declared.patch.Patch.{Patch}
use Rattle.room_patches.specs.Places.{IsCoordinate, IsPlace, coordinate, gap, squared_distance}
use Rattle.room_patches.specs.Patches.{IsPatch, distance_before, above_zero, in_front}

-- each coordinate of a place is one
on-axis : (place : List ℤ) (axis : ℕ) → IsPlace place → axis ≤ 2 → IsCoordinate (coordinate place axis)
on-axis place zero valid h = valid.x
on-axis place (suc zero) valid h = valid.y
on-axis place (suc (suc zero)) valid h = valid.z
on-axis place (suc (suc (suc n))) valid h = absurd (omega arith)

-- how far apart coordinates lie, as the program computes it
words_apart : (a b : ℤ) (r : ℕ) → IsCoordinate a → IsCoordinate b → r ≡ unsigned_abs (to_z w32 (of_z w32 b) -ℤ to_z w32 (of_z w32 a)) → r ≡ unsigned_abs (b -ℤ a)
words_apart a b r ha hb e = let la = ha.low in let ua = ha.high in let lb = hb.low in let ub = hb.high in omega (arith, ints)

pub gap-by_words : (from to : List ℤ) (axis r : ℕ) → IsPlace from → IsPlace to → axis ≤ 2 → r ≡ unsigned_abs (to_z w32 (of_z w32 (coordinate to axis)) -ℤ to_z w32 (of_z w32 (coordinate from axis))) → r ≡ gap from to axis
gap-by_words from to axis r hf ht h e = words_apart (coordinate from axis) (coordinate to axis) r (on-axis from axis hf h) (on-axis to axis ht h) e

-- two places lie at most 200,000 half-millimetres apart along an axis
pub gap-le : (from to : List ℤ) (axis : ℕ) → IsPlace from → IsPlace to → axis ≤ 2 → gap from to axis ≤ 200000
gap-le from to axis hf ht h = apart-le (coordinate from axis) (coordinate to axis) (on-axis from axis hf h) (on-axis to axis ht h)
  where
    apart-le : (a b : ℤ) → IsCoordinate a → IsCoordinate b → unsigned_abs (b -ℤ a) ≤ 200000
    apart-le a b ha hb = let la = ha.low in let ua = ha.high in let lb = hb.low in let ub = hb.high in omega (arith, ints)

pub squares_le : (x y z : ℕ) → x ≤ 200000 → y ≤ 200000 → z ≤ 200000 → x * x + y * y + z * z ≤ 120000000000
squares_le x y z hx hy hz = omega (arith, mul-le x x 200000 200000 hx hx, mul-le y y 200000 200000 hy hy, mul-le z z 200000 200000 hz hz)

apart-comm : (a b : ℤ) → unsigned_abs (b -ℤ a) ≡ unsigned_abs (a -ℤ b)
apart-comm a b = omega (arith, ints)

pub squared_distance_comm : (a b : List ℤ) → squared_distance a b ≡ squared_distance b a
unfolding squared_distance
squared_distance_comm a b =
    let x = apart-comm (coordinate a 0) (coordinate b 0) in
    let y = apart-comm (coordinate a 1) (coordinate b 1) in
    let z = apart-comm (coordinate a 2) (coordinate b 2) in
    λ k. x k * x k + y k * y k + z k * z k

one-le : (g : ℕ → ℕ) (axis : ℕ) → axis ≤ 2 → g axis * g axis ≤ g 0 * g 0 + g 1 * g 1 + g 2 * g 2
one-le g zero h = omega arith
one-le g (suc zero) h = omega arith
one-le g (suc (suc zero)) h = omega arith
one-le g (suc (suc (suc n))) h = absurd (omega arith)

-- a place is no nearer to the centre of a patch than to its plane
pub distance_squared_le : (patch : Patch) (place : List ℤ) (a : ℕ) → IsPatch patch → distance_before patch place ≡ pos a → a * a ≤ squared_distance patch.centre place
unfolding squared_distance distance_before
distance_squared_le patch place a valid is =
    subst (λ (g : ℕ). g * g ≤ squared_distance patch.centre place) same (one-le (gap patch.centre place) patch.axis valid.axis)
  where
    by_side : (rising : Bool) (u v : ℤ) → (if rising then v -ℤ u else u -ℤ v) ≡ pos a → unsigned_abs (v -ℤ u) ≡ a
    by_side true u v e = ap unsigned_abs e
    by_side false u v e = apart-comm u v ∙ ap unsigned_abs e

    same : gap patch.centre place patch.axis ≡ a
    same = by_side patch.rising (coordinate patch.centre patch.axis) (coordinate place patch.axis) is

-- the same for how far the place lies in front of the patch
pub in_front_squared_le : (patch : Patch) (place : List ℤ) → IsPatch patch → in_front patch place * in_front patch place ≤ squared_distance patch.centre place
unfolding in_front
in_front_squared_le patch place valid = by_distance (distance_before patch place) refl
  where
    by_distance : (d : ℤ) → distance_before patch place ≡ d → above_zero d * above_zero d ≤ squared_distance patch.centre place
    by_distance (pos a) is = distance_squared_le patch place a valid is
    by_distance (negsuc a) is = omega arith
