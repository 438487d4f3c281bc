-- The steps in which a lit room is made, each from those before it.
use Rattle.std.proofs.Common.{◌≡◌, ℕ, List, map, Some, None, Ok, Err, refl}
use Rattle.std.specs.Option.{option_map}
use Rattle.compliance.specs.declared.checks.CheckSpec.{CheckSpec}
use Rattle.direct_flux.specs.DirectFlux.{direct_flux}
use Rattle.duties.specs.Duties.{first}
use Rattle.fixtures.specs.declared.fixture.Fixture.{Fixture}
use Rattle.fixtures.specs.declared.spec.FixtureSpec.{FixtureSpec}
use Rattle.fixtures.specs.Fixtures.{fixture_of}
use Rattle.fixtures.specs.Placing.{placing_duty}
use Rattle.flux_system.specs.System.{FluxSystem}
use Rattle.flux_system.specs.Limits.{limit_duties}
use Rattle.photo_web.specs.Web.{PhotometricWeb}
use Rattle.project_file.specs.Projects.{Project, project_room}
use Rattle.room_patches.specs.declared.spec.RoomSpec.{RoomSpec}
use Rattle.room_patches.specs.declared.region.Region.{Region}
use Rattle.room_patches.specs.Rooms.{Room}
use Rattle.room_patches.specs.Validity.{room_duties}
use Rattle.transfer_shares.specs.Shares as shares
use Rattle.lit_room.specs.declared.faults.LightFault.{LightFault}
use Rattle.lit_room.specs.declared.faults.LightFault.TheVariants as fault
use Rattle.lit_room.specs.LitRooms.{Lighting, system_of, flux_of, checks_duty, lit_room_of}
use Rattle.lit_room.proofs.Lighting.{room_refused, fixture_refused, limits_refused, grid_refused, accepted}

-- the room that is asked for is that of the project
pub same_room : (project : Project) (spec : RoomSpec) (regions : List Region) → spec ≡ project.room → regions ≡ project.regions → record { spec = spec; regions = regions } ≡ project_room project
same_room project spec regions is_spec are_regions = λ k. record { spec = is_spec k; regions = are_regions k }

module _ (l : Lighting) (wish room : Room) (asked : List FixtureSpec) (is_wish : wish ≡ project_room l.project) (is_room : room ≡ wish) (is_asked : asked ≡ l.project.fixtures) where
  pub no_room : (f : LightFault) → option_map fault.Room (first (room_duties wish)) ≡ Some f → lit_room_of l ≡ Err f
  no_room f h = room_refused l f (rw is_wish at h)

  pub flux_is : (fixtures : List Fixture) (webs : List PhotometricWeb) → fixtures ≡ map fixture_of asked → webs ≡ l.webs → direct_flux room fixtures webs ≡ flux_of l
  flux_is fixtures webs is_fixtures is_webs = rw (is_fixtures, is_webs, is_room, is_wish, is_asked) refl

  pub system_is : (threshold : ℕ) → threshold ≡ l.project.threshold → shares.room_system room threshold ≡ system_of l
  system_is threshold is = rw (is, is_room, is_wish) refl

  module _ (valid : option_map fault.Room (first (room_duties wish)) ≡ None) where
    pub no_fixture : (f : LightFault) → option_map fault.Fixture (placing_duty room.spec asked) ≡ Some f → lit_room_of l ≡ Err f
    no_fixture f h = fixture_refused l (rw is_wish at valid) f (rw (is_room, is_wish, is_asked) at h)

    module _ (placed : option_map fault.Fixture (placing_duty room.spec asked) ≡ None) (system : FluxSystem) (flux : List ℕ) (is_system : system ≡ system_of l) (is_flux : flux ≡ flux_of l) where
      pub past_limit : (f : LightFault) → option_map fault.Limits (first (limit_duties system flux)) ≡ Some f → lit_room_of l ≡ Err f
      past_limit f h = limits_refused l (rw is_wish at valid) (rw (is_room, is_wish, is_asked) at placed) f (rw (is_system, is_flux) at h)

      module _ (checks : List CheckSpec) (are_checks : checks ≡ l.project.checks) (limited : option_map fault.Limits (first (limit_duties system flux)) ≡ None) where
        pub no_grid : (f : LightFault) → checks_duty room.spec checks ≡ Some f → lit_room_of l ≡ Err f
        no_grid f h = grid_refused l (rw is_wish at valid) (rw (is_room, is_wish, is_asked) at placed) (rw (is_system, is_flux) at limited) f (rw (is_room, is_wish, are_checks) at h)

        pub all_passed : checks_duty room.spec checks ≡ None → lit_room_of l ≡ Ok l
        all_passed h = accepted l (rw is_wish at valid) (rw (is_room, is_wish, is_asked) at placed) (rw (is_system, is_flux) at limited) (rw (is_room, is_wish, are_checks) at h)
