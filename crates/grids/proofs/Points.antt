-- Where the points of a grid lie.
use Rattle.std.proofs.Common.{◌≡◌, ℕ, ◌+◌, ◌-◌, ◌*◌, ◌/◌, ◌<◌, ◌≤◌, ℤ, pos, List, length, get_or, refl, ap, ◌∙◌, arith}
use Rattle.std.proofs.Math.Nat.{div-le_of_le-mul}
use Rattle.std.proofs.lemmas.Int.{ints}
use Rattle.std.proofs.lemmas.List.FromFn.{length-map-range_with_len, get_or-map-range_with_len}
use Rattle.std.proofs.lemmas.Nat.{mul-le, mod_below, div_below}
use Rattle.room_patches.specs.Places.{IsCoordinate, IsPlace}
use Rattle.grids.specs.declared.spec.GridSpec.{GridSpec}
use Rattle.grids.specs.Grids.{count, middle_of_cell, point_at, points}
use Rattle.grids.specs.Validity.{IsLaid}

-- the middle of a cell lies within the stretch
pub middle_of_cell-le : (from to cells k : ℕ) → from ≤ to → k < cells → middle_of_cell from to cells k ≤ 2 * to
middle_of_cell-le from to cells k rises inside =
    let w : ℕ = to - from in
    let part : (2 * k + 1) * w ≤ 2 * cells * w = mul-le (2 * k + 1) w (2 * cells) w (omega arith) (omega arith) in
    let le : (2 * k + 1) * w / cells ≤ 2 * w = div-le_of_le-mul cells (omega arith) in
    omega arith

-- as many points stand in the list as the counts say
pub length-points : (grid : GridSpec) → length (points grid) ≡ count grid
length-points grid = length-map-range_with_len (point_at grid) 0 (count grid)

-- each at its number
pub point-listed : (grid : GridSpec) (all : List (List ℤ)) (g : ℕ) (d : List ℤ) → all ≡ points grid → g < count grid → get_or all g d ≡ point_at grid g
point-listed grid all g d is inside = ap (λ (list : List (List ℤ)). get_or list g d) is ∙ get_or-map-range_with_len (point_at grid) 0 (count grid) g g d inside (omega arith)

coordinate-valid : (n : ℕ) → n ≤ 200000 → IsCoordinate (pos n)
coordinate-valid n h = record { low = omega (arith, ints); high = omega (arith, ints) }

-- each point is a place
pub IsPlace-point_at : (grid : GridSpec) (g : ℕ) → IsLaid grid → g < count grid → IsPlace (point_at grid g)
unfolding point_at
IsPlace-point_at grid g laid inside =
    let width = laid.room.width.short in
    let depth = laid.room.depth.short in
    let height = laid.room.height.short in
    let column = middle_of_cell-le grid.x0 grid.x1 grid.px _ (omega (arith, laid.wide)) (mod_below g grid.px laid.some_columns) in
    let row = middle_of_cell-le grid.y0 grid.y1 grid.py _ (omega (arith, laid.deep)) (div_below g grid.px grid.py laid.some_columns (omega arith)) in
    record {
      three = refl;
      x = coordinate-valid _ (omega (arith, laid.within_width));
      y = coordinate-valid _ (omega (arith, laid.within_depth));
      z = coordinate-valid (2 * grid.z) (omega (arith, laid.below_ceiling));
    }
