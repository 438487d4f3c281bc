-- The lists of angles, in millidegrees, and the symmetry of the horizontal ones.
use Rattle.std.specs.Prelude.{ℕ, ◌+◌, ◌-◌, ◌==◌, ◌&&◌, nat_lt, if◌then◌else◌, Option, Some, None, List, length, map, slice_index}
use Rattle.std.specs.List.{range_with_len}
use Rattle.duties.specs.Duties.{Duty, unless}
use Rattle.lux_lines.specs.Places.{Piece}
use Rattle.photo_numbers.specs.Numbers.{angle_of, is_angle}
use Rattle.photo_web.specs.declared.photometry.SymKind.{SymKind}
use Rattle.photo_web.specs.declared.photometry.SymKind.TheVariants.{Axis, Quadrant, Plane0, Plane90, Full}
use Rattle.symmetry.specs.Images.{has_span}
use Rattle.lm63_reader.specs.declared.faults.LmFault.{LmFault}
use Rattle.lm63_reader.specs.declared.faults.LmFault.TheVariants.{Angles}
use Rattle.lm63_reader.specs.Fields.{number_at, field}

-- the angle at a place of a list that begins at another place, cut
abbrev pub angle_at : List Piece → ℕ → ℕ → ℕ
angle_at all start at = angle_of (number_at all (start + at))

-- the least angle that may stand at a place: one above the angle before it
abbrev pub least_angle : List Piece → ℕ → ℕ → ℕ
least_angle all start at = if at == 0 then 0 else angle_at all start (at - 1) + 1

-- the angle at a place is at most the most, and above the angle before it
unfoldable pub angle_duty : ℕ → ℕ → List Piece → ℕ → ℕ → Duty LmFault
angle_duty list most all start at = field all (start + at) (λ x. unless (is_angle (least_angle all start at) most x) (Angles list at))

-- the angles of a list
unfoldable pub angles : List Piece → ℕ → ℕ → List ℕ
angles all start count = map (angle_at all start) (range_with_len 0 count)

-- the symmetry whose span the horizontal angles have; a full turn is stored past half a turn
unfoldable pub span_symmetry : List ℕ → Option SymKind
span_symmetry planes =
    if has_span Axis planes then Some Axis
    else (if has_span Quadrant planes then Some Quadrant
    else (if has_span Plane0 planes then Some Plane0
    else (if has_span Plane90 planes then Some Plane90
    else (if has_span Full planes && nat_lt 180000 (slice_index planes (length planes - 1)) then Some Full
    else None))))
