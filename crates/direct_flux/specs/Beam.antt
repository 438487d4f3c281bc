-- The luminous intensity of a placed luminaire towards a place, in the C-gamma system of photometric files (CIE 121):
-- gamma 0 points straight down, and C counts from the luminaire's own x axis towards its y axis.
use Rattle.std.specs.Prelude.{ℕ, ◌+◌, ◌-◌, ◌*◌, ◌/◌, ◌%◌, ◌^◌, if◌then◌else◌, ℤ, pos, int_lt, ◌-ℤ◌, List}
use Rattle.lux_num.specs.Quotients.{root}
use Rattle.photo_web.specs.Web.{PhotometricWeb}
use Rattle.direction_table.specs.Directions.{angle, bearing}
use Rattle.intensity.specs.Intensity.{interpolated_intensity}
use Rattle.room_patches.specs.Places.{coordinate, gap}
use Rattle.fixtures.specs.declared.fixture.Fixture.{Fixture}
use Rattle.fixtures.specs.Fixtures.{place_of}

-- how far a place lies from a luminaire along an axis, in half-millimetres, below zero against the axis
abbrev pub offset : Fixture → List ℤ → ℕ → ℤ
offset fixture place axis = coordinate place axis -ℤ coordinate (place_of fixture) axis

-- a thousand times the distance of the two as the plan shows it, cut
unfoldable pub plan_distance : Fixture → List ℤ → ℕ
plan_distance fixture place = root ((gap (place_of fixture) place 0 * gap (place_of fixture) place 0 + gap (place_of fixture) place 1 * gap (place_of fixture) place 1) * 10 ^ 6)

-- the angle between the way to the place and the vertical, from 0 to a right angle
unfoldable pub tilt : Fixture → List ℤ → ℕ
tilt fixture place = angle (1000 * gap (place_of fixture) place 2) (plan_distance fixture place)

-- gamma: the tilt from straight down; a place above the luminaire is seen past a right angle
unfoldable pub gamma_towards : Fixture → List ℤ → ℕ
gamma_towards fixture place = if int_lt (pos 0) (offset fixture place 2) then 180000 - tilt fixture place else tilt fixture place

-- C: the bearing of the place in the plan, less the luminaire's rotation, within one turn
unfoldable pub plane_towards : Fixture → List ℤ → ℕ
plane_towards fixture place = (bearing (offset fixture place 0) (offset fixture place 1) + 360000 - fixture.rotation) % 360000

-- the luminous intensity towards the place in microcandela, at the luminaire's level
unfoldable pub beam : Fixture → PhotometricWeb → List ℤ → ℕ
beam fixture web place = interpolated_intensity web (plane_towards fixture place) (gamma_towards fixture place) * fixture.level / 1000
