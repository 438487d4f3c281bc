-- Numbers of stretches, as the program computes them in words.
use Rattle.std.proofs.Common.{◌≡◌, ℕ, ◌*◌, ◌<◌, ◌≤◌, ◌^◌, ℤ, pos, ◌-ℤ◌, ◌*ℤ◌, arith}
use Rattle.std.specs.Prelude.{unsigned_abs}
use Rattle.std.specs.Int.{int_max, int_min}
use Rattle.std.proofs.lemmas.Int.{ints, clamps, to_z-of_z, fits_signed_mul, fits_signed_from_abs}
use mir.Syntax.{w32, w64}
use mir.Val.{to_z, of_z, SFits}
use Rattle.room_patches.specs.Places.{IsCoordinate}

pub fits : (z : ℤ) → IsCoordinate z → SFits w32 z
fits z valid = let low = valid.low in let high = valid.high in omega (arith, ints)

-- a coordinate
pub same : (from r : ℤ) → IsCoordinate from → r ≡ to_z w32 (of_z w32 from) → r ≡ from
same from r valid is = let low = valid.low in let high = valid.high in omega (arith, ints)

-- a face at some millimetres
pub doubled : (face : ℕ) (r : ℤ) → face < 2 ^ 32 → r ≡ pos face → to_z w64 (of_z w64 (pos 2 *ℤ to_z w64 (of_z w64 r))) ≡ pos (2 * face)
doubled face r fits is = omega (arith, ints)

-- the greater and the lesser of two coordinates
pub greater : (from to m r : ℤ) → SFits w32 from → SFits w32 to → m ≡ int_max (to_z w32 (of_z w32 from)) (to_z w32 (of_z w32 to)) → r ≡ to_z w32 (of_z w32 m)
    → to_z w64 (of_z w64 r) ≡ int_max from to
greater from to m r first second is r_is = omega (arith, ints, clamps)

pub lesser : (from to m r : ℤ) → SFits w32 from → SFits w32 to → m ≡ int_min (to_z w32 (of_z w32 from)) (to_z w32 (of_z w32 to)) → r ≡ to_z w32 (of_z w32 m)
    → to_z w64 (of_z w64 r) ≡ int_min from to
lesser from to m r first second is r_is = omega (arith, ints, clamps)

-- how far a face at some millimetres lies behind a place, and before it
pub behind : (face : ℕ) (from r s : ℤ) → face < 2 ^ 32 → IsCoordinate from → r ≡ pos face → s ≡ from
    → to_z w64 (of_z w64 (to_z w64 (of_z w64 (pos 2 *ℤ to_z w64 (of_z w64 r))) -ℤ to_z w64 (of_z w64 s))) ≡ pos (2 * face) -ℤ from
behind face from r s fits valid r_is s_is = let low = valid.low in let high = valid.high in omega (arith, ints)

pub before : (face : ℕ) (from r s : ℤ) → face < 2 ^ 32 → IsCoordinate from → r ≡ pos face → s ≡ from
    → to_z w64 (of_z w64 (to_z w64 (of_z w64 s) -ℤ to_z w64 (of_z w64 (pos 2 *ℤ to_z w64 (of_z w64 r))))) ≡ from -ℤ pos (2 * face)
before face from r s fits valid r_is s_is = let low = valid.low in let high = valid.high in omega (arith, ints)

-- a product of an end of a stretch and the whole of another
pub times : (end : ℤ) (whole : ℕ) (r : ℤ) → unsigned_abs end ≤ 2 ^ 33 → whole ≤ 200000 → r ≡ pos whole
    → to_z w64 (of_z w64 (to_z w64 (of_z w64 end) *ℤ to_z w64 (of_z w64 r))) ≡ end *ℤ pos whole
times end whole r short near is =
    let first : SFits w64 end = fits_signed_from_abs w64 end (omega arith) in
    let second : SFits w64 (pos whole) = fits_signed_from_abs w64 (pos whole) (omega arith) in
    let both : SFits w64 (end *ℤ pos whole) = fits_signed_mul w64 end (pos whole) (2 ^ 33) 200000 short near (omega arith) in
    rw (is, to_z-of_z w64 end first, to_z-of_z w64 (pos whole) second) (to_z-of_z w64 (end *ℤ pos whole) both)
