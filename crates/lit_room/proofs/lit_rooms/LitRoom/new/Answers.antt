use Rattle.std.proofs.Common.{ap, refl, sym, map, ◌∙◌, length}
use Rattle.fixtures.specs.Fixtures.{fixture_of}
use Rattle.flux_system.specs.System.{FluxSystem, patches}
use Rattle.lit_room.proofs.Lighting.{webs_in_range, few_placed, a_flux_each}
use Rattle.lit_room.proofs.Making.{no_room, no_fixture, past_limit, no_grid, all_passed, flux_is, system_is, same_room}
use Rattle.lit_room.proofs.lit_rooms.LitRoom.new.Goals as goal

pub returns-in-Err-clause-fault : goal.returns-in-Err-clause-fault
returns-in-Err-clause-fault g c = λ ne. no_room _ _ _ _ (same_room c.args.project _ _ c.room.ensures c.regions.ensures.value) refl refl _ (c.in-Err.ensures.answer ne)

pub returns-in-Err-place_all-clause-fault : goal.returns-in-Err-place_all-clause-fault
returns-in-Err-place_all-clause-fault g c = λ ne. no_fixture _ _ _ _ (same_room c.args.project _ _ c.room.ensures c.regions.ensures.value) c.in-Ok.ensures.room c.fixtures.ensures.value c.in-Ok.ensures.answer _ (c.in-Err-place_all.ensures.answer ne)

pub light_room-requires-clause-webs : goal.light_room-requires-clause-webs
light_room-requires-clause-webs g c =
    λ _ _. webs_in_range _ _ _ _ (c.deref.ensures.value ∙ c.in-Ok-place_all.ensures.fixtures) c.fixtures.ensures.webs (ap length c.deref-2.ensures.value ∙ c.requires)

pub returns-in-Err-light_room-clause-fault : goal.returns-in-Err-light_room-clause-fault
returns-in-Err-light_room-clause-fault g c = λ ne.
    let flux = flux_is (record { project = c.args.project; webs = c.args.webs.items }) _ _ _ (same_room c.args.project _ _ c.room.ensures c.regions.ensures.value) c.in-Ok.ensures.room c.fixtures.ensures.value _ _ (c.deref.ensures.value ∙ c.in-Ok-place_all.ensures.fixtures) c.deref-2.ensures.value in
    past_limit (record { project = c.args.project; webs = c.args.webs.items }) _ _ _ (same_room c.args.project _ _ c.room.ensures c.regions.ensures.value) c.in-Ok.ensures.room c.fixtures.ensures.value c.in-Ok.ensures.answer c.in-Ok-place_all.ensures.answer _ _ refl flux _ (c.in-Err-light_room.ensures.fault ne _)

pub test_limits-requires : goal.test_limits-requires
test_limits-requires g c =
    ap length (c.deref-3.ensures.value ∙ c.in-Ok-light_room.ensures.flux) ∙ (a_flux_each _ c.threshold.result _ _ ∙ ap (λ (s : FluxSystem). patches s) (sym c.in-Ok-light_room.ensures.system))

pub returns-in-Err-test_limits-clause-fault : goal.returns-in-Err-test_limits-clause-fault
returns-in-Err-test_limits-clause-fault g c = λ ne.
    let flux = flux_is (record { project = c.args.project; webs = c.args.webs.items }) _ _ _ (same_room c.args.project _ _ c.room.ensures c.regions.ensures.value) c.in-Ok.ensures.room c.fixtures.ensures.value _ _ (c.deref.ensures.value ∙ c.in-Ok-place_all.ensures.fixtures) c.deref-2.ensures.value in
    let system = system_is (record { project = c.args.project; webs = c.args.webs.items }) _ _ _ (same_room c.args.project _ _ c.room.ensures c.regions.ensures.value) c.in-Ok.ensures.room c.fixtures.ensures.value _ c.threshold.ensures.value in
    past_limit (record { project = c.args.project; webs = c.args.webs.items }) _ _ _ (same_room c.args.project _ _ c.room.ensures c.regions.ensures.value) c.in-Ok.ensures.room c.fixtures.ensures.value c.in-Ok.ensures.answer c.in-Ok-place_all.ensures.answer _ _
    (c.in-Ok-light_room.ensures.system ∙ system) (c.deref-3.ensures.value ∙ (c.in-Ok-light_room.ensures.flux ∙ flux)) _ (c.in-Err-test_limits.ensures ne)

pub returns-in-Err-lay_grids-clause-fault : goal.returns-in-Err-lay_grids-clause-fault
returns-in-Err-lay_grids-clause-fault g c = λ ne.
    let flux = flux_is (record { project = c.args.project; webs = c.args.webs.items }) _ _ _ (same_room c.args.project _ _ c.room.ensures c.regions.ensures.value) c.in-Ok.ensures.room c.fixtures.ensures.value _ _ (c.deref.ensures.value ∙ c.in-Ok-place_all.ensures.fixtures) c.deref-2.ensures.value in
    let system = system_is (record { project = c.args.project; webs = c.args.webs.items }) _ _ _ (same_room c.args.project _ _ c.room.ensures c.regions.ensures.value) c.in-Ok.ensures.room c.fixtures.ensures.value _ c.threshold.ensures.value in
    no_grid (record { project = c.args.project; webs = c.args.webs.items }) _ _ _ (same_room c.args.project _ _ c.room.ensures c.regions.ensures.value) c.in-Ok.ensures.room c.fixtures.ensures.value c.in-Ok.ensures.answer c.in-Ok-place_all.ensures.answer _ _
    (c.in-Ok-light_room.ensures.system ∙ system) (c.deref-3.ensures.value ∙ (c.in-Ok-light_room.ensures.flux ∙ flux)) _ c.checks.ensures.value c.in-Ok-test_limits.ensures _ (c.in-Err-lay_grids.ensures.answer ne)

pub invariant_of-result : goal.invariant_of-result
invariant_of-result g c =
    let flux = flux_is (record { project = c.args.project; webs = c.args.webs.items }) _ _ _ (same_room c.args.project _ _ c.room.ensures c.regions.ensures.value) c.in-Ok.ensures.room c.fixtures.ensures.value _ _ (c.deref.ensures.value ∙ c.in-Ok-place_all.ensures.fixtures) c.deref-2.ensures.value in
    let system = system_is (record { project = c.args.project; webs = c.args.webs.items }) _ _ _ (same_room c.args.project _ _ c.room.ensures c.regions.ensures.value) c.in-Ok.ensures.room c.fixtures.ensures.value _ c.threshold.ensures.value in
    record {
      accepted = all_passed (record { project = c.args.project; webs = c.args.webs.items }) _ _ _ (same_room c.args.project _ _ c.room.ensures c.regions.ensures.value) c.in-Ok.ensures.room c.fixtures.ensures.value c.in-Ok.ensures.answer c.in-Ok-place_all.ensures.answer _ _
          (c.in-Ok-light_room.ensures.system ∙ system) (c.deref-3.ensures.value ∙ (c.in-Ok-light_room.ensures.flux ∙ flux)) _ c.checks.ensures.value c.in-Ok-test_limits.ensures c.in-Ok-lay_grids.ensures.answer;
      webs = c.requires;
      is_room = c.in-Ok.ensures.room ∙ same_room c.args.project _ _ c.room.ensures c.regions.ensures.value;
      are_fixtures = c.in-Ok-place_all.ensures.fixtures ∙ ap (map fixture_of) c.fixtures.ensures.value;
      placed = c.in-Ok-place_all.ensures.placed;
      have_webs = webs_in_range _ _ _ _ c.in-Ok-place_all.ensures.fixtures c.fixtures.ensures.webs c.requires;
      few = few_placed _ _ c.in-Ok-place_all.ensures.fixtures c.fixtures.ensures.few;
      is_system = c.in-Ok-light_room.ensures.system ∙ system;
      is_flux = c.in-Ok-light_room.ensures.flux ∙ flux;
      are_grids = c.in-Ok-lay_grids.ensures.grids ∙ (rw (c.in-Ok.ensures.room, c.room.ensures, c.checks.ensures.value) refl);
    }

pub returns-clause-ok : goal.returns-clause-ok
returns-clause-ok g c =
    let flux = flux_is (record { project = c.args.project; webs = c.args.webs.items }) _ _ _ (same_room c.args.project _ _ c.room.ensures c.regions.ensures.value) c.in-Ok.ensures.room c.fixtures.ensures.value _ _ (c.deref.ensures.value ∙ c.in-Ok-place_all.ensures.fixtures) c.deref-2.ensures.value in
    let system = system_is (record { project = c.args.project; webs = c.args.webs.items }) _ _ _ (same_room c.args.project _ _ c.room.ensures c.regions.ensures.value) c.in-Ok.ensures.room c.fixtures.ensures.value _ c.threshold.ensures.value in
    all_passed (record { project = c.args.project; webs = c.args.webs.items }) _ _ _ (same_room c.args.project _ _ c.room.ensures c.regions.ensures.value) c.in-Ok.ensures.room c.fixtures.ensures.value c.in-Ok.ensures.answer c.in-Ok-place_all.ensures.answer _ _
    (c.in-Ok-light_room.ensures.system ∙ system) (c.deref-3.ensures.value ∙ (c.in-Ok-light_room.ensures.flux ∙ flux)) _ c.checks.ensures.value c.in-Ok-test_limits.ensures c.in-Ok-lay_grids.ensures.answer
