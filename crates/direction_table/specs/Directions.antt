-- Directions in whole thousandths of a degree. That they come from this table of whole degrees, and in proportion between
-- two of them, is this project's own rule.
use Rattle.std.specs.Prelude.{ℕ, zero, suc, ◌+◌, ◌-◌, ◌*◌, ◌/◌, ◌^◌, ◌==◌, ◌&&◌, nat_le, Bool, if◌then◌else◌, ℤ, pos, int_lt, int_le, unsigned_abs}
use Rattle.laws.specs.Greatest.{greatest_up_to}

-- a direction by its sine and its cosine, times 10^18
pub record Direction : Type 0 where
  pub sine : ℕ
  pub cosine : ℕ

-- one degree
abbrev pub one_degree : Direction
one_degree = record { sine = 17452406437283512; cosine = 999847695156391239 }

-- one degree further, by the sine and the cosine of a sum, cut to whole numbers
abbrev pub one_degree_further : Direction → Direction
one_degree_further from = record {
  sine = (from.sine * one_degree.cosine + from.cosine * one_degree.sine) / 10 ^ 18;
  cosine = (from.cosine * one_degree.cosine - from.sine * one_degree.sine) / 10 ^ 18;
}

-- the direction at a number of degrees, in steps of one degree from 0
unfoldable pub direction_at : ℕ → Direction
direction_at zero = record { sine = 0; cosine = 10 ^ 18 }
direction_at (suc degrees) = one_degree_further (direction_at degrees)

-- the sine of a whole number of degrees up to 90, times 10^18; that of 90 is exact
unfoldable pub sine : ℕ → ℕ
sine degrees = if degrees == 90 then 10 ^ 18 else (direction_at degrees).sine

-- the cosine of a whole number of degrees up to 90, times 10^18; that of 90 is exact
unfoldable pub cosine : ℕ → ℕ
cosine degrees = if degrees == 90 then 0 else (direction_at degrees).cosine

-- (x, y) lies at or past a whole number of degrees: y over x is at least its tangent, which is its sine over its cosine
abbrev pub is_past : ℕ → ℕ → ℕ → Bool
is_past x y degrees = nat_le (x * sine degrees) (y * cosine degrees)

-- the greatest whole number of degrees, up to 89, that (x, y) lies at or past
unfoldable pub whole_degrees : ℕ → ℕ → ℕ
whole_degrees x y = greatest_up_to 89 (is_past x y)

-- how far (x, y) lies past a number of degrees, across that direction
abbrev pub distance_past : ℕ → ℕ → ℕ → ℕ
distance_past x y degrees = y * cosine degrees - x * sine degrees

-- how far (x, y) lies short of a number of degrees, across that direction
abbrev pub distance_short : ℕ → ℕ → ℕ → ℕ
distance_short x y degrees = x * sine degrees - y * cosine degrees

-- the place of (x, y) between a whole number of degrees and the next, in thousandths, cut
abbrev pub thousandths : ℕ → ℕ → ℕ → ℕ
thousandths x y degrees = 1000 * distance_past x y degrees / (distance_past x y degrees + distance_short x y (degrees + 1))

-- the angle from the x axis to (x, y), in thousandths of a degree, 0 at the origin
unfoldable pub angle : ℕ → ℕ → ℕ
angle x y = if (x == 0) && (y == 0) then 0 else 1000 * whole_degrees x y + thousandths x y (whole_degrees x y)

-- the angle from the x axis round to (x, y) in any quadrant, in thousandths of a degree, 0 at the origin
unfoldable pub bearing : ℤ → ℤ → ℕ
bearing x y =
    if int_lt (pos 0) x && int_le (pos 0) y then angle (unsigned_abs x) (unsigned_abs y)
    else (if int_le x (pos 0) && int_lt (pos 0) y then 90000 + angle (unsigned_abs y) (unsigned_abs x)
    else (if int_lt x (pos 0) && int_le y (pos 0) then 180000 + angle (unsigned_abs x) (unsigned_abs y)
    else (if int_le (pos 0) x && int_lt y (pos 0) then 270000 + angle (unsigned_abs y) (unsigned_abs x)
    else 0)))
