-- The flux that luminaires send to a patch directly: intensity times cosine times area over the squared distance (the
-- inverse square law and Lambert's cosine law), in whole nanolumens.
use Rattle.std.specs.Prelude.{ℕ, ◌*◌, ◌/◌, ◌^◌, if◌then◌else◌, nat_lt, nat_le, List, [], map, sum, slice_index_or}
use Rattle.std.specs.List.{sum_by}
use Rattle.duties.specs.Duties.{Duty, unless}
use Rattle.lux_num.specs.Quotients.{root}
use Rattle.photo_web.specs.Web.{PhotometricWeb}
use Rattle.room_patches.specs.Rooms.{Room}
use Rattle.room_patches.specs.declared.patch.Patch.{Patch}
use Rattle.room_patches.specs.Places.{squared_distance}
use Rattle.room_patches.specs.Patches.{patches, in_front}
use Rattle.fixtures.specs.declared.fixture.Fixture.{Fixture}
use Rattle.fixtures.specs.Fixtures.{place_of}
use Rattle.direct_flux.specs.declared.faults.DirectFault.{DirectFault}
use Rattle.direct_flux.specs.declared.faults.DirectFault.TheVariants.{FluxTooLarge}
use Rattle.direct_flux.specs.Beam.{beam}

-- the flux that arrives with an intensity (microcandela) from a place in front of a patch's plane by so many
-- half-millimetres, at a squared distance in square half-millimetres
abbrev pub received_flux : ℕ → ℕ → ℕ → ℕ → ℕ
received_flux intensity distance squared area = 4 * 10 ^ 6 * intensity * distance * area / (squared * root (squared * 10 ^ 6))

-- the flux of one luminaire on a patch; a luminaire in the patch's plane or behind it sends nothing
unfoldable pub flux_from : PhotometricWeb → Fixture → Patch → ℕ
flux_from web fixture patch =
    if nat_lt 0 (in_front patch (place_of fixture))
    then received_flux (beam fixture web patch.centre) (in_front patch (place_of fixture)) (squared_distance (place_of fixture) patch.centre) patch.area
    else 0

-- a web that is dark in all directions
abbrev pub dark_web : PhotometricWeb
dark_web = record { planes = []; gammas = []; values = [] }

-- the flux of all luminaires on a patch, each with the web of its number
unfoldable pub flux_on : List PhotometricWeb → List Fixture → Patch → ℕ
flux_on webs fixtures patch = sum_by (λ fixture. flux_from (slice_index_or webs fixture.web dark_web) fixture patch) fixtures

-- the direct flux of each patch of a room
abbrev pub direct_flux : Room → List Fixture → List PhotometricWeb → List ℕ
direct_flux room fixtures webs = map (flux_on webs fixtures) (patches room)

-- the direct flux over all patches is at most 10^16 nanolumens
abbrev pub flux_duty : List ℕ → Duty DirectFault
flux_duty flux = unless (nat_le (sum flux) (10 ^ 16)) (FluxTooLarge (sum flux))
