-- Which planes an EULUMDAT file stores. Which ones, where they start and in which order they stand is this project's own rule.
use Rattle.std.specs.Prelude.{ℕ, ◌+◌, ◌-◌, ◌*◌, ◌/◌, ◌%◌, ◌==◌, ◌&&◌, ◌||◌, nat_lt, nat_le, Bool, true, if◌then◌else◌, List, [], ◌∷◌, ◌++◌, length, map, take, drop, reverse, slice_index}
use Rattle.std.specs.List.{range_with_len, flat_map}
use Rattle.photo_web.specs.Web.{row_values}
use Rattle.symmetry.specs.Images.{spans}
use Rattle.photo_web.specs.declared.photometry.SymKind.{SymKind}
use Rattle.photo_web.specs.declared.photometry.SymKind.TheVariants.{Axis, Quadrant, Plane0, Plane90, Full}
use Rattle.eulumdat_reader.specs.declared.gaps.Gap.{Gap}

-- the symmetry that line 3 names
abbrev pub symmetry_of : ℕ → SymKind
symmetry_of code =
    if code == 0 then Full
    else (if code == 1 then Axis
    else (if code == 2 then Plane0
    else (if code == 3 then Plane90
    else Quadrant)))

-- the number of C planes is a multiple of this
abbrev pub divisor : SymKind → ℕ
divisor Axis = 1
divisor Full = 1
divisor Plane0 = 2
divisor Plane90 = 4
divisor Quadrant = 4

-- how many of some C planes are stored
abbrev pub stored_count : SymKind → ℕ → ℕ
stored_count Full count = count
stored_count Axis count = 1
stored_count Plane0 count = count / 2 + 1
stored_count Plane90 count = count / 2 + 1
stored_count Quadrant count = count / 4 + 1

-- The places among the C lines that aren't read, since their planes aren't stored; for Axis no C line is read.
-- For Plane90 the planes of the last quarter are stored, and then those of the first quarter and the next one.
abbrev pub unread_gap : SymKind → ℕ → Gap
unread_gap Full count = record { from = count; to = count }
unread_gap Axis count = record { from = 0; to = count }
unread_gap Plane0 count = record { from = count / 2 + 1; to = count }
unread_gap Plane90 count = record { from = count / 4 + 1; to = 3 * (count / 4) }
unread_gap Quadrant count = record { from = count / 4 + 1; to = count }

-- a place is outside a gap
abbrev pub is_outside : Gap → ℕ → Bool
is_outside g place = nat_lt place g.from || nat_le g.to place

-- The angles read from some C lines, in the order of lines, have the span of their symmetry. For Plane90 the first ones go
-- from 0 to 90 degrees, and the others from 270 to below 360.
abbrev pub is_span : SymKind → ℕ → List ℕ → Bool
is_span Full count angles = slice_index angles 0 == 0
is_span Axis count angles = true
is_span Plane0 count angles = spans 0 180000 angles
is_span Plane90 count angles =
    spans 0 90000 (take (count / 4 + 1) angles)
    && slice_index angles (count / 4 + 1) == 270000
    && nat_lt (slice_index angles (length angles - 1)) 360000
is_span Quadrant count angles = spans 0 90000 angles

-- for Plane90 a plane stored at an angle stands for 180 degrees less the angle, modulo a full turn
abbrev pub turned_angle : ℕ → ℕ
turned_angle angle = (360000 + 180000 - angle) % 360000

-- The planes of the web that are stored, in rising order, by the angles read, in the order of lines. For Plane90 the
-- stored ones stand from 270 degrees on, and go on at 0; turned they rise in the other order.
abbrev pub stored_planes : SymKind → ℕ → List ℕ → List ℕ
stored_planes Full count angles = angles
stored_planes Axis count angles = 0 ∷ []
stored_planes Plane0 count angles = angles
stored_planes Plane90 count angles = map turned_angle (reverse (drop (count / 4 + 1) angles ++ take (count / 4 + 1) angles))
stored_planes Quadrant count angles = angles

-- so many rows of a width, in the other order
unfoldable pub reversed_rows : ℕ → ℕ → List ℕ → List ℕ
reversed_rows count width values = flat_map (λ i. row_values width values (count - 1 - i)) (range_with_len 0 count)

-- The rows of the stored planes, by the values in the order of lines. For Plane90 these rows stand from 270 degrees on, as
-- the stored planes do, so that they come the other way round.
abbrev pub stored_rows : SymKind → ℕ → ℕ → List ℕ → List ℕ
stored_rows Full count width values = values
stored_rows Axis count width values = values
stored_rows Plane0 count width values = values
stored_rows Plane90 count width values = reversed_rows (stored_count Plane90 count) width values
stored_rows Quadrant count width values = values
