-- The lists of angles, in millidegrees. Places in a list count from 0.
use Rattle.std.specs.Prelude.{ℕ, ◌+◌, ◌-◌, ◌==◌, if◌then◌else◌, List, length, map, filter, slice_index}
use Rattle.std.specs.List.{range_with_len}
use Rattle.duties.specs.Duties.{Duty, unless}
use Rattle.lux_lines.specs.Places.{Piece}
use Rattle.photo_numbers.specs.Numbers.{angle_of, is_angle}
use Rattle.eulumdat_reader.specs.declared.faults.LdtFault.{LdtFault}
use Rattle.eulumdat_reader.specs.declared.faults.LdtFault.TheVariants.{Angles}
use Rattle.eulumdat_reader.specs.Rows.{number_at, field, presence_duty}
use Rattle.eulumdat_reader.specs.declared.gaps.Gap.{Gap}
use Rattle.eulumdat_reader.specs.Planes.{is_outside}

-- the angle at a place of a list that begins on a line, cut
abbrev pub angle_at : List Piece → ℕ → ℕ → ℕ
angle_at all start at = angle_of (number_at all (start + at))

-- the angles at the places before one, of those that are read
unfoldable pub angles : Gap → List Piece → ℕ → ℕ → List ℕ
angles unread all start at = map (angle_at all start) (filter (is_outside unread) (range_with_len 0 at))

-- the least angle that may stand behind some: one above the last of them
abbrev pub least_behind : List ℕ → ℕ
least_behind before = if length before == 0 then 0 else slice_index before (length before - 1) + 1

-- the line of a place is there; where it is read, its angle is at most the most, and above the one read before it
unfoldable pub angle_duty : ℕ → ℕ → Gap → List Piece → ℕ → ℕ → Duty LdtFault
angle_duty list most unread all start at =
    if is_outside unread at
    then field all (start + at) (λ x. unless (is_angle (least_behind (angles unread all start at)) most x) (Angles list at))
    else presence_duty all (start + at)
