-- Points and the patches that they see.
use Rattle.std.proofs.Common.{◌≡◌, ℕ, ◌*◌, ◌≤◌, ℤ, List, subst, sym, arith}
use Rattle.room_patches.specs.Places.{IsPlace, squared_distance}
use Rattle.room_patches.specs.Patches.{IsPatch}
use Rattle.room_patches.proofs.Distances.{in_front_squared_le}
use Rattle.grids.specs.GridPoint.{square_metre_at, height_over}

-- the surface at a point is a patch
pub IsPatch-square_metre_at : (point : List ℤ) → IsPlace point → IsPatch (square_metre_at point)
IsPatch-square_metre_at point place = record {
  centre = place;
  axis = omega arith;
  limited = omega arith;
  reflectance = omega arith;
}

-- a place is no nearer to a point than it is high over it
pub height_squared_le : (point place : List ℤ) (height : ℕ) → IsPlace point → height ≡ height_over point place → height * height ≤ squared_distance point place
height_squared_le point place height valid is =
    subst (λ (h : ℕ). h * h ≤ squared_distance point place) (sym is) (in_front_squared_le (square_metre_at point) place (IsPatch-square_metre_at point valid))
