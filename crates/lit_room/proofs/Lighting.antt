-- What follows from the tests of a lighting, and how they are met or fail.
use Rattle.std.proofs.Common.{◌≡◌, ℕ, ◌<◌, ◌≤◌, List, length, map, Some, None, Option, Ok, Err, refl, ap, sym, ◌∙◌, arith}
use Rattle.std.specs.Prelude.{All, slice_get, option_and_then}
use Rattle.std.specs.Option.{option_map}
use Rattle.std.proofs.lemmas.Grind.{common_steps}
use Rattle.std.proofs.lemmas.List.{length-map}
use Rattle.std.proofs.lemmas.List.Elements.{All-map}
use Rattle.compliance.specs.declared.checks.CheckSpec.{CheckSpec}
use Rattle.direct_flux.specs.DirectFlux.{flux_on, direct_flux, flux_duty}
use Rattle.direct_flux.specs.declared.faults.DirectFault.{DirectFault}
use Rattle.direct_flux.specs.declared.faults.DirectFault.TheVariants as direct
use Rattle.duties.specs.Duties.{first, unless}
use Rattle.duties.proofs.Orders.{this_fails, this_met, last_decides, all_met, judged_ok, judged_err, judged_is}
use Rattle.fixtures.specs.declared.fixture.Fixture.{Fixture}
use Rattle.fixtures.specs.declared.spec.FixtureSpec.{FixtureSpec}
use Rattle.fixtures.specs.Fixtures.{fixture_of}
use Rattle.fixtures.specs.Placing.{placing_duty}
use Rattle.flux_system.specs.System as systems
use Rattle.flux_system.specs.System.{FluxSystem}
use Rattle.flux_system.specs.Limits.{limit_duties}
use Rattle.flux_system.specs.declared.faults.LimitFault.TheVariants as limit
use Rattle.grids.specs.Grids.{grid_of}
use Rattle.grids.specs.Validity.{grid_duties}
use Rattle.photo_web.specs.Web.{PhotometricWeb}
use Rattle.room_patches.specs.declared.patch.Patch.{Patch}
use Rattle.room_patches.specs.declared.spec.RoomSpec.{RoomSpec}
use Rattle.project_file.specs.Projects.{project_room}
use Rattle.room_patches.specs.Rooms.{Room}
use Rattle.room_patches.specs.Patches.{patches}
use Rattle.room_patches.specs.Validity.{room_duties}
use Rattle.transfer_shares.specs.Shares as shares
use Rattle.transfer_shares.specs.Shares.{reflectances_of}
use Rattle.lit_room.specs.declared.faults.LightFault.{LightFault}
use Rattle.lit_room.specs.declared.faults.LightFault.TheVariants as fault
use Rattle.lit_room.specs.LitRooms.{Lighting, system_of, flux_of, check_duty, checks_duty, lighting_duties, lit_room_of}

-- a mapped duty is met only where the duty is
pub met : {F G : Type 0} (f : F → G) (duty : Option F) → option_map f duty ≡ None → duty ≡ None
met f None h = refl
met f (Some fault) h = absurd (cc)

module _ (l : Lighting) where
  pub room_refused : (f : LightFault) → option_map fault.Room (first (room_duties (project_room l.project))) ≡ Some f → lit_room_of l ≡ Err f
  unfolding lighting_duties
  room_refused f is = judged_err (lighting_duties l) l f (this_fails _ _ f is)

  module _ (valid : option_map fault.Room (first (room_duties (project_room l.project))) ≡ None) where
    pub fixture_refused : (f : LightFault) → option_map fault.Fixture (placing_duty l.project.room l.project.fixtures) ≡ Some f → lit_room_of l ≡ Err f
    unfolding lighting_duties
    fixture_refused f is = judged_err (lighting_duties l) l f (this_met _ _ valid ∙ this_fails _ _ f is)

    module _ (placed : option_map fault.Fixture (placing_duty l.project.room l.project.fixtures) ≡ None) where
      pub limits_refused : (f : LightFault) → option_map fault.Limits (first (limit_duties (system_of l) (flux_of l))) ≡ Some f → lit_room_of l ≡ Err f
      unfolding lighting_duties
      limits_refused f is = judged_err (lighting_duties l) l f (this_met _ _ valid ∙ (this_met _ _ placed ∙ this_fails _ _ f is))

      module _ (limited : option_map fault.Limits (first (limit_duties (system_of l) (flux_of l))) ≡ None) where
        pub grid_refused : (f : LightFault) → checks_duty l.project.room l.project.checks ≡ Some f → lit_room_of l ≡ Err f
        unfolding lighting_duties
        grid_refused f is = judged_err (lighting_duties l) l f (this_met _ _ valid ∙ (this_met _ _ placed ∙ (this_met _ _ limited ∙ (last_decides _ ∙ is))))

        pub accepted : checks_duty l.project.room l.project.checks ≡ None → lit_room_of l ≡ Ok l
        unfolding lighting_duties
        accepted is = judged_ok (lighting_duties l) l (this_met _ _ valid ∙ (this_met _ _ placed ∙ (this_met _ _ limited ∙ (last_decides _ ∙ is))))

-- the duty of a number is that of the check that has it
pub duty_at : (room : RoomSpec) (checks : List CheckSpec) (at : ℕ) (check : CheckSpec) → slice_get checks at ≡ Some check → check_duty room checks at ≡ option_map (fault.Grid at) (first (grid_duties (grid_of room check)))
unfolding check_duty
duty_at room checks at check is = ap (option_and_then (λ one. option_map (fault.Grid at) (first (grid_duties (grid_of room one))))) is

-- a lit room's flux is within the limits
pub within_limits : (l : Lighting) → lit_room_of l ≡ Ok l → first (limit_duties (system_of l) (flux_of l)) ≡ None
unfolding lighting_duties
within_limits l is =
    let all = (judged_is (lighting_duties l) l l is).1 in
    let behind_room = (all_met _ _ all).1 in
    let behind_fixtures = (all_met _ _ behind_room).1 in
    met fault.Limits _ (all_met _ _ behind_fixtures).0

-- a direct flux that is too much is past the first limit of every system
pub too_much : (flux : List ℕ) (amount : ℕ) (f : DirectFault) → f ≡ direct.FluxTooLarge amount → flux_duty flux ≡ Some f → (s : FluxSystem) → option_map fault.Limits (first (limit_duties s flux)) ≡ Some (fault.Limits (limit.FluxTooLarge amount))
unfolding limit_duties first unless
too_much flux amount f is h s = grind (arith, common_steps)

-- each placed luminaire has a web
pub webs_in_range : (asked : List FixtureSpec) (fixtures : List Fixture) (files webs : ℕ) → fixtures ≡ map fixture_of asked → All (λ f. f.web < files) asked → webs ≡ files → All (λ fixture. fixture.web < webs) fixtures
webs_in_range asked fixtures files webs is inside same = rw (is, same) (All-map (λ (fixture : Fixture). fixture.web < files) fixture_of asked inside)

-- as many are placed as are asked for
pub few_placed : (asked : List FixtureSpec) (fixtures : List Fixture) → fixtures ≡ map fixture_of asked → length asked ≤ 256 → length fixtures ≤ 256
few_placed asked fixtures is few = omega (arith, few, ap length is, length-map asked fixture_of)

-- a direct flux for each patch
pub a_flux_each : (room : Room) (threshold : ℕ) (fixtures : List Fixture) (webs : List PhotometricWeb) → length (direct_flux room fixtures webs) ≡ systems.patches (shares.room_system room threshold)
unfolding reflectances_of
a_flux_each room threshold fixtures webs = length-map (patches room) (flux_on webs fixtures) ∙ sym (length-map (patches room) (λ (patch : Patch). patch.reflectance))

-- the lit room of a lighting is the lighting itself
pub lit_room_itself : (l found : Lighting) → lit_room_of l ≡ Ok found → found ≡ l
lit_room_itself l found is = (judged_is (lighting_duties l) l found is).0
