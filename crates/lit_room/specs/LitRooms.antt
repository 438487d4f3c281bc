-- A lit room: a project with the webs of its files, whose room is valid, whose luminaires can be placed in it, whose flux is
-- within the limits, and whose checks lay their grids in it. Its flux system, its direct flux and its grids follow from the two.
use Rattle.std.specs.Prelude.{ℕ, List, [], ◌∷◌, length, map, slice_get, option_and_then, Result}
use Rattle.std.specs.Option.{option_map}
use Rattle.compliance.specs.declared.checks.CheckSpec.{CheckSpec}
use Rattle.direct_flux.specs.DirectFlux.{direct_flux}
use Rattle.duties.specs.Duties.{Duty, first, each, judged}
use Rattle.fixtures.specs.declared.fixture.Fixture.{Fixture}
use Rattle.fixtures.specs.Fixtures.{fixture_of}
use Rattle.fixtures.specs.Placing.{placing_duty}
use Rattle.flux_system.specs.Limits.{limit_duties}
use Rattle.flux_system.specs.System.{FluxSystem}
use Rattle.grids.specs.declared.spec.GridSpec.{GridSpec}
use Rattle.grids.specs.Grids.{grid_of}
use Rattle.grids.specs.Validity.{grid_duties}
use Rattle.photo_web.specs.Web.{PhotometricWeb}
use Rattle.project_file.specs.Projects.{Project, project_room}
use Rattle.room_patches.specs.declared.spec.RoomSpec.{RoomSpec}
use Rattle.room_patches.specs.Validity.{room_duties}
use Rattle.transfer_shares.specs.Shares as shares
use Rattle.lit_room.specs.declared.faults.LightFault.{LightFault}
use Rattle.lit_room.specs.declared.faults.LightFault.TheVariants as fault

-- a project, and a web for each of its files
pub record Lighting : Type 0 where
  pub project : Project
  pub webs : List PhotometricWeb

-- its luminaires, placed in its room
abbrev pub fixtures_of : Lighting → List Fixture
fixtures_of lighting = map fixture_of lighting.project.fixtures

-- its room as a flux system, with the project's threshold
abbrev pub system_of : Lighting → FluxSystem
system_of lighting = shares.room_system (project_room lighting.project) lighting.project.threshold

-- what its luminaires send to each patch
abbrev pub flux_of : Lighting → List ℕ
flux_of lighting = direct_flux (project_room lighting.project) (fixtures_of lighting) lighting.webs

-- the grids that its checks ask for in its room
abbrev pub grids_of : Lighting → List GridSpec
grids_of lighting = map (grid_of lighting.project.room) lighting.project.checks

-- the duty of the check that has a number: its grid's, whose refusal names the check
unfoldable pub check_duty : RoomSpec → List CheckSpec → ℕ → Duty LightFault
check_duty room checks at = option_and_then (λ check. option_map (fault.Grid at) (first (grid_duties (grid_of room check)))) (slice_get checks at)

-- checks are tested one after another
unfoldable pub checks_duty : RoomSpec → List CheckSpec → Duty LightFault
checks_duty room checks = each (length checks) (check_duty room checks)

-- what makes a room lit, as tests in their order, each with its refusal: its room, its luminaires, the limits of flux, and its checks
unfoldable pub lighting_duties : Lighting → List (Duty LightFault)
lighting_duties lighting =
    option_map fault.Room (first (room_duties (project_room lighting.project)))
    ∷ option_map fault.Fixture (placing_duty lighting.project.room lighting.project.fixtures)
    ∷ option_map fault.Limits (first (limit_duties (system_of lighting) (flux_of lighting)))
    ∷ checks_duty lighting.project.room lighting.project.checks
    ∷ []

-- the lit room of a lighting, or its refusal
abbrev pub lit_room_of : Lighting → Result Lighting LightFault
lit_room_of lighting = judged (lighting_duties lighting) lighting
