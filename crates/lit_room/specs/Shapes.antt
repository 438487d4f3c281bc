-- What only the code stands on: the parts of a lit room beside the project and the webs. No public clause cites it.
use Rattle.std.specs.Prelude.{◌≡◌, ℕ, ◌<◌, ◌≤◌, List, length, Ok, All}
use Rattle.fixtures.specs.declared.fixture.Fixture.{Fixture}
use Rattle.fixtures.specs.Fixtures.{IsPlaced}
use Rattle.flux_system.specs.System.{FluxSystem}
use Rattle.grids.specs.declared.spec.GridSpec.{GridSpec}
use Rattle.project_file.specs.Projects.{project_room}
use Rattle.room_patches.specs.Rooms.{Room}
use Rattle.lit_room.specs.LitRooms.{Lighting, fixtures_of, system_of, flux_of, grids_of, lit_room_of}

-- the lighting is accepted, and these are its parts
pub record HasParts (lighting : Lighting) (room : Room) (fixtures : List Fixture) (system : FluxSystem) (flux : List ℕ) (grids : List GridSpec) : Type 0 where
  pub accepted : lit_room_of lighting ≡ Ok lighting
  pub webs : length lighting.webs ≡ length lighting.project.files
  pub is_room : room ≡ project_room lighting.project
  pub are_fixtures : fixtures ≡ fixtures_of lighting
  pub placed : All IsPlaced fixtures
  pub have_webs : All (λ fixture. fixture.web < length lighting.webs) fixtures
  pub few : length fixtures ≤ 256
  pub is_system : system ≡ system_of lighting
  pub is_flux : flux ≡ flux_of lighting
  pub are_grids : grids ≡ grids_of lighting
