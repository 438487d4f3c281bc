-- Luminous intensity between the stored directions of a photometric web, by this project's own rule. Angles are in
-- millidegrees, values in microcandela.
use Rattle.std.specs.Prelude.{ℕ, ◌+◌, ◌-◌, ◌*◌, ◌/◌, ◌<◌, ◌≤◌, ◌&&◌, if◌then◌else◌, Bool, nat_le, List, length, slice_index, take, count_by}
use Rattle.photo_web.specs.Web.{PhotometricWeb, value_at}
use Rattle.intensity.specs.declared.stretch.Stretch.{Stretch}

-- The place of the last of some rising angles that is at or below another: those at or below stand first, so it is their
-- count less one.
abbrev pub last_up_to : ℕ → List ℕ → ℕ
last_up_to angle angles = count_by (λ other. nat_le other angle) angles - 1

-- the stretch from the angle at a place to the next one: how far another angle is past its beginning, and how wide it is
abbrev pub stretch_from : List ℕ → ℕ → ℕ → Stretch
stretch_from angles place angle =
    record {
      place = place;
      past = angle - slice_index angles place;
      width = slice_index angles (place + 1) - slice_index angles place;
    }

-- a stretch begins and ends at one of the angles, and what is measured by it lies within it
pub record IsWithin (angles : List ℕ) (s : Stretch) : Type 0 where
  pub inside : s.place + 1 < length angles
  pub past : s.past ≤ s.width
  pub some : 0 < s.width
  pub limited : s.width ≤ 360000

-- where an angle c lies between the planes: past the last plane at or below it
abbrev pub between_planes : PhotometricWeb → ℕ → Stretch
between_planes w c = stretch_from w.planes (last_up_to c w.planes) c

-- where a gamma lies between the stored ones: past the last one at or below it, but for the last of the list
abbrev pub between_gammas : PhotometricWeb → ℕ → Stretch
between_gammas w gamma = stretch_from w.gammas (last_up_to gamma (take (length w.gammas - 1) w.gammas)) gamma

-- The four corners of a cell, which is a stretch of planes by one of gammas. The direction splits the cell into four
-- parts, and the value at a corner weighs as much as the part opposite.
unfoldable pub weighted_sum : PhotometricWeb → Stretch → Stretch → ℕ
weighted_sum w plane gamma =
    value_at w plane.place gamma.place * ((plane.width - plane.past) * (gamma.width - gamma.past))
    + value_at w (plane.place + 1) gamma.place * (plane.past * (gamma.width - gamma.past))
    + value_at w plane.place (gamma.place + 1) * ((plane.width - plane.past) * gamma.past)
    + value_at w (plane.place + 1) (gamma.place + 1) * (plane.past * gamma.past)

-- bilinear interpolation in a cell: the weighted sum over the cell's area, cut once
abbrev pub in_cell : PhotometricWeb → Stretch → Stretch → ℕ
in_cell w plane gamma = weighted_sum w plane gamma / (plane.width * gamma.width)

-- an angle is neither below the first of some angles nor above the last
abbrev pub covers : List ℕ → ℕ → Bool
covers angles angle = nat_le (slice_index angles 0) angle && nat_le angle (slice_index angles (length angles - 1))

-- the intensity in the direction of c and gamma, 0 outside the stored gammas
unfoldable pub interpolated_intensity : PhotometricWeb → ℕ → ℕ → ℕ
interpolated_intensity w c gamma = if covers w.gammas gamma then in_cell w (between_planes w c) (between_gammas w gamma) else 0
