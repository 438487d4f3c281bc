-- What the tests of a room say: which one refuses it, and that it is valid where none does.
use Rattle.std.proofs.Common.{◌≡◌, ℕ, ◌<◌, ◌≤◌, true, false, List, [], ◌∷◌, length, Some, None, sym, ap, ◌∙◌, arith}
use Rattle.std.specs.Prelude.{nat_le, All}
use Rattle.std.specs.List.{list_all}
use Rattle.std.proofs.lemmas.Bool.{leb-true, lt-leb, le-leb, and_parts}
use Rattle.std.proofs.lemmas.List.Elements.{All-nil, All-cons}
use Rattle.duties.specs.Duties.{first}
use Rattle.duties.proofs.Orders.{this_met, this_fails, unless_holds, unless_fails, unless_met, all_met, fault_in_front, front_met, last_decides}
use Rattle.room_patches.specs.declared.spec.RoomSpec.{RoomSpec}
use Rattle.room_patches.specs.declared.faults.RoomFault.{RoomFault}
use Rattle.room_patches.specs.declared.faults.RoomFault.TheVariants.{Patches, Reflectance}
use Rattle.room_patches.specs.Patches.{patches}
use Rattle.room_patches.specs.Rooms.{Room, plain_room}
use Rattle.room_patches.specs.Validity.{IsRoom, has_size, has_counts, has_reflectances, spec_duties, region_duty, room_duties}

module _ (spec : RoomSpec) (n : ℕ) (size : has_size spec ≡ true) (counts : has_counts spec ≡ true) (n_is : n ≡ length (patches (plain_room spec))) where
  pub refused_by_number : 4096 < n → first (spec_duties spec) ≡ Some (Patches n)
  unfolding spec_duties
  refused_by_number many =
      this_met _ _ (unless_holds _ _ size)
      ∙ (this_met _ _ (unless_holds _ _ counts)
      ∙ (this_fails _ _ _ (unless_fails _ _ (lt-leb _ _ (omega arith))) ∙ ap (λ (m : ℕ). Some (Patches m)) (sym n_is)))

  pub refused_by_reflectance : n ≤ 4096 → has_reflectances spec ≡ false → first (spec_duties spec) ≡ Some Reflectance
  unfolding spec_duties
  refused_by_reflectance few high =
      this_met _ _ (unless_holds _ _ size)
      ∙ (this_met _ _ (unless_holds _ _ counts)
      ∙ (this_met _ _ (unless_holds _ _ (le-leb _ _ (omega arith))) ∙ this_fails _ _ _ (unless_fails _ _ high)))

walls-valid : (walls : List ℕ) → list_all (λ wall. nat_le wall 950) walls ≡ true → All (λ wall. wall ≤ 950) walls
walls-valid [] h = All-nil (λ wall. wall ≤ 950)
walls-valid (wall ∷ walls) h = All-cons (λ w. w ≤ 950) wall walls (leb-true _ _ (and_parts _ _ h).0) (walls-valid walls (and_parts _ _ h).1)

pub valid_where_met : (spec : RoomSpec) → first (spec_duties spec) ≡ None → IsRoom spec
unfolding spec_duties
valid_where_met spec met =
    let a = all_met _ _ met in
    let b = all_met _ _ a.1 in
    let c = all_met _ _ b.1 in
    let d = all_met _ _ c.1 in
    let size = and_parts _ _ (unless_met _ _ a.0) in
    let level = and_parts _ _ size.0 in
    let width = and_parts _ _ level.0 in
    let depth = and_parts _ _ level.1 in
    let height = and_parts _ _ size.1 in
    let counts = and_parts _ _ (unless_met _ _ b.0) in
    let flat = and_parts _ _ counts.0 in
    let nx = and_parts _ _ flat.0 in
    let ny = and_parts _ _ flat.1 in
    let nz = and_parts _ _ counts.1 in
    let reflectances = and_parts _ _ (unless_met _ _ d.0) in
    let ends = and_parts _ _ reflectances.0 in
    record {
      width = record { short = leb-true _ _ width.1; some = leb-true _ _ nx.0; few = leb-true _ _ nx.1 };
      depth = record { short = leb-true _ _ depth.1; some = leb-true _ _ ny.0; few = leb-true _ _ ny.1 };
      height = record { short = leb-true _ _ height.1; some = leb-true _ _ nz.0; few = leb-true _ _ nz.1 };
      wide = leb-true _ _ width.0;
      deep = leb-true _ _ depth.0;
      high = leb-true _ _ height.0;
      few = leb-true _ _ (unless_met _ _ c.0);
      floor = leb-true _ _ ends.0;
      ceiling = leb-true _ _ ends.1;
      walls = walls-valid spec.walls reflectances.1;
    }

module _ (room : Room) where
  -- a room is refused as its lengths, parts and reflectances are
  pub refused_by_spec : (fault : RoomFault) → first (spec_duties room.spec) ≡ Some fault → first (room_duties room) ≡ Some fault
  unfolding room_duties
  refused_by_spec fault h = fault_in_front (spec_duties room.spec) (region_duty room.spec room.regions ∷ []) fault h

  -- or else as its regions are
  pub regions_decide : first (spec_duties room.spec) ≡ None → first (room_duties room) ≡ region_duty room.spec room.regions
  unfolding room_duties
  regions_decide met = front_met (spec_duties room.spec) (region_duty room.spec room.regions ∷ []) met ∙ last_decides (region_duty room.spec room.regions)
