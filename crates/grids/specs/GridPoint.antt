-- The illuminance at a point of a grid, in nanolux: what luminaires send there directly, and what patches reflect there.
use Rattle.std.specs.Prelude.{ℕ, ◌+◌, ◌*◌, ◌/◌, ◌<◌, ◌^◌, ◌&&◌, ℤ, Bool, true, nat_lt, if◌then◌else◌, List, map, length, slice_index, slice_index_or}
use Rattle.std.specs.Int.{div_ceil}
use Rattle.std.specs.List.{sum_by, range_with_len}
use Rattle.compliance.specs.Exact.{Fraction, IsBetween}
use Rattle.photo_web.specs.Web.{PhotometricWeb}
use Rattle.room_patches.specs.declared.patch.Patch.{Patch}
use Rattle.room_patches.specs.Places.{squared_distance}
use Rattle.room_patches.specs.Rooms.{Room}
use Rattle.room_patches.specs.Patches.{patches, in_front}
use Rattle.fixtures.specs.declared.fixture.Fixture.{Fixture}
use Rattle.direct_flux.specs.DirectFlux.{flux_on}
use Rattle.grids.specs.declared.spec.GridSpec.{GridSpec}
use Rattle.grids.specs.Grids.{point_at, points}

-- A square metre of a level surface that faces up, with its middle at a point. The illuminance there in lux is the flux on
-- it in lumens.
abbrev pub square_metre_at : List ℤ → Patch
square_metre_at point = record { centre = point; axis = 2; rising = true; area = 10 ^ 6; reflectance = 0 }

-- what all luminaires send to a point, each with the web of its number
unfoldable pub direct_at : List PhotometricWeb → List Fixture → List ℤ → ℕ
direct_at webs fixtures point = flux_on webs fixtures (square_metre_at point)

-- what they send to each point
abbrev pub direct_light : GridSpec → List Fixture → List PhotometricWeb → List ℕ
direct_light grid fixtures webs = map (direct_at webs fixtures) (points grid)

-- how high a place lies over a level surface at a point: 0 beside it and below
abbrev pub height_over : List ℤ → List ℤ → ℕ
height_over point place = in_front (square_metre_at point) place

-- the point lies in front of the patch, and the patch's middle over the point
abbrev pub is_seen : Patch → List ℤ → Bool
is_seen patch point = nat_lt 0 (in_front patch point) && nat_lt 0 (height_over point patch.centre)

-- The illuminance at a point for each lumen that leaves a patch, in parts of 10^12 of a lux, cut: the two cosines over the
-- square of the distance of the patch's middle, by Lambert's cosine law, and over pi, whose reciprocal is counted in parts
-- of 10^9 and cut. Lengths count half-millimetres.
unfoldable pub coefficient : Patch → List ℤ → ℕ
coefficient patch point =
    if is_seen patch point
    then 318309886 * (4 * 10 ^ 9) * in_front patch point * height_over point patch.centre / (squared_distance patch.centre point * squared_distance patch.centre point)
    else 0

-- the coefficient of patch i at point g
abbrev pub coefficient_of : Room → GridSpec → ℕ → ℕ → ℕ
coefficient_of room grid i g = slice_index (map (λ patch. coefficient patch (point_at grid g)) (patches room)) i

-- What patches weigh at a point: what they reflect of the flux that reaches them (reflectances are per mille), times their
-- coefficients. So it is in parts of 10^15 of a nanolux for each nanolumen.
abbrev pub weights : List Patch → List ℤ → List ℕ
weights patches point = map (λ patch. patch.reflectance * coefficient patch point) patches

-- what the patches reflect to a point in parts of 10^15 of a nanolux, where a flux in nanolumens reaches each
unfoldable pub reflected_light : List Patch → List ℤ → (ℕ → ℕ) → ℕ
reflected_light patches point flux = sum_by (λ i. slice_index (weights patches point) i * flux i) (range_with_len 0 (length patches))

-- the ends of a patch's interval
abbrev pub low_end : List (ℕ × ℕ) → ℕ → ℕ
low_end bounds i = (slice_index_or bounds i (0, 0)).0

abbrev pub high_end : List (ℕ × ℕ) → ℕ → ℕ
high_end bounds i = (slice_index_or bounds i (0, 0)).1

-- the interval of a point: the direct light and what is reflected at the low ends, cut, to what is reflected at the high
-- ends, rounded up
abbrev pub light_between : Room → GridSpec → List ℕ → List (ℕ × ℕ) → ℕ → ℕ × ℕ
light_between room grid direct bounds g = (
  slice_index direct g + reflected_light (patches room) (point_at grid g) (low_end bounds) / 10 ^ 15,
  slice_index direct g + div_ceil (reflected_light (patches room) (point_at grid g) (high_end bounds)) (10 ^ 15),
)

-- the light at a point where patch i has num i / den nanolumens
abbrev pub exact_light : Room → GridSpec → List ℕ → ℕ → (ℕ → ℕ) → ℕ → Fraction
exact_light room grid direct g num den = record {
  top = 10 ^ 15 * den * slice_index direct g + reflected_light (patches room) (point_at grid g) num;
  bottom = 10 ^ 15 * den;
}

-- Two ends enclose the light at a point, whatever flux within its own interval each patch has. No such flux is negative, so
-- that natural numbers over one denominator are all there are.
abbrev pub EnclosesLight : Room → GridSpec → List ℕ → List (ℕ × ℕ) → ℕ → ℕ × ℕ → Type 0
EnclosesLight room grid direct bounds g ends =
    (num : ℕ → ℕ) (den : ℕ) → 0 < den
    → ((i : ℕ) → i < length (patches room) → IsBetween (low_end bounds i, high_end bounds i) (record { top = num i; bottom = den }))
    → IsBetween ends (exact_light room grid direct g num den)
