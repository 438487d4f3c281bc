-- What the tests of boxes say: which box is refused, and that each is one where none is.
use Rattle.std.proofs.Common.{◌≡◌, ℕ, ◌+◌, ◌<◌, ◌≤◌, true, List, [], ◌∷◌, ◌++◌, length, drop, Option, None, Some, refl, sym, ap, ◌∙◌, arith}
use Rattle.std.specs.Prelude.{◌&&◌, nat_lt, nat_le, All, slice_get}
use Rattle.std.proofs.Math.ListN.{drop_of_length-le}
use Rattle.std.proofs.lemmas.Bool.{leb-true, ltb-true, and_parts, le-leb, lt-leb}
use Rattle.std.proofs.lemmas.List.Elements.{All-nil, All-cons}
use Rattle.laws.proofs.Left.{left_is}
use Rattle.duties.specs.Duties.{first}
use Rattle.duties.proofs.Orders.{this_met, this_fails, none_left, unless_holds, unless_fails, unless_met, all_met, fault_in_front, front_met}
use Rattle.room_patches.specs.declared.box_spec.BoxSpec.{BoxSpec}
use Rattle.room_patches.specs.declared.spec.RoomSpec.{RoomSpec}
use Rattle.boxes.specs.declared.faults.BoxFault.{BoxFault}
use Rattle.boxes.specs.declared.faults.BoxFault.TheVariants.{Patches}
use Rattle.boxes.specs.FurnishedRooms.{FurnishedRoom, patches}
use Rattle.boxes.specs.Validity.{IsStretch, IsCount, IsBox, box_duties, boxes_duties, furniture_duties}

stretch_where_met : (from to whole : ℕ) → nat_lt from to && nat_le to whole ≡ true → IsStretch from to whole
stretch_where_met from to whole met = let parts = and_parts _ _ met in record { some = ltb-true _ _ parts.0; within = leb-true _ _ parts.1 }

count_where_met : (parts : ℕ) → nat_le 1 parts && nat_le parts 64 ≡ true → IsCount parts
count_where_met parts met = let ends = and_parts _ _ met in record { some = leb-true _ _ ends.0; few = leb-true _ _ ends.1 }

box_where_met : (room : RoomSpec) (at : ℕ) (box : BoxSpec) → first (box_duties room at box) ≡ None → IsBox room box
unfolding box_duties
box_where_met room at box met =
    let a = all_met _ _ met in
    let b = all_met _ _ a.1 in
    let c = all_met _ _ b.1 in
    let bounds = and_parts _ _ (unless_met _ _ a.0) in
    let level = and_parts _ _ bounds.0 in
    let counts = and_parts _ _ (unless_met _ _ b.0) in
    let flat = and_parts _ _ counts.0 in
    record {
      x = stretch_where_met _ _ _ level.0;
      y = stretch_where_met _ _ _ level.1;
      z = stretch_where_met _ _ _ bounds.1;
      nx = count_where_met _ flat.0;
      ny = count_where_met _ flat.1;
      nz = count_where_met _ counts.1;
      reflectance = leb-true _ _ (unless_met _ _ c.0);
    }

-- where a list of duties is met, its front is, and what is behind it
both_met : {F : Type 0} (front behind : List (Option F)) → first (front ++ behind) ≡ None → (first front ≡ None) × (first behind ≡ None)
both_met {F} front behind met = by_front (first front) refl
  where
    by_front : (o : Option F) → first front ≡ o → (first front ≡ None) × (first behind ≡ None)
    by_front None is = (is, sym (front_met front behind is) ∙ met)
    by_front (Some fault) is = let refused = fault_in_front front behind fault is in absurd (cc)

pub boxes_where_met : (room : RoomSpec) (from : ℕ) (boxes : List BoxSpec) → first (boxes_duties room from boxes) ≡ None → All (IsBox room) boxes
unfolding boxes_duties
boxes_where_met room from [] met = All-nil (IsBox room)
boxes_where_met room from (box ∷ boxes) met =
    let parts = both_met (box_duties room from box) (boxes_duties room (from + 1) boxes) met in
    All-cons (IsBox room) box boxes (box_where_met room from box parts.0) (boxes_where_met room (from + 1) boxes parts.1)

module _ (room : RoomSpec) (boxes : List BoxSpec) (at : ℕ) (box : BoxSpec) (here : slice_get boxes at ≡ Some box) where
  -- a box that fails a test decides
  pub box_refused : (fault : BoxFault) → first (box_duties room at box) ≡ Some fault → first (boxes_duties room at (drop at boxes)) ≡ Some fault
  unfolding boxes_duties
  box_refused fault fails = rw (left_is boxes at box here).0 (fault_in_front (box_duties room at box) (boxes_duties room (at + 1) (drop (at + 1) boxes)) fault fails)

  -- and one that fails none leaves it to those behind it
  pub box_passed : first (box_duties room at box) ≡ None → first (boxes_duties room at (drop at boxes)) ≡ first (boxes_duties room (at + 1) (drop (at + 1) boxes))
  unfolding boxes_duties
  box_passed passes = rw (left_is boxes at box here).0 (front_met (box_duties room at box) (boxes_duties room (at + 1) (drop (at + 1) boxes)) passes)

-- where no box is left, none is refused
pub none_behind : (room : RoomSpec) (boxes : List BoxSpec) (at : ℕ) → length boxes ≤ at → first (boxes_duties room at (drop at boxes)) ≡ None
unfolding boxes_duties
none_behind room boxes at past = rw (drop_of_length-le boxes past) none_left

module _ (furnished : FurnishedRoom) where
  -- furniture is refused as its first box that fails a test
  pub refused_by_box : (fault : BoxFault) → first (boxes_duties furnished.room.spec 0 furnished.boxes) ≡ Some fault → first (furniture_duties furnished) ≡ Some fault
  unfolding furniture_duties
  refused_by_box fault fails = fault_in_front (boxes_duties furnished.room.spec 0 furnished.boxes) _ fault fails

  module _ (boxes : first (boxes_duties furnished.room.spec 0 furnished.boxes) ≡ None) (n : ℕ) (n_is : n ≡ length (patches furnished)) where
    -- or else as the number of patches is too great
    pub refused_by_number : 4096 < n → first (furniture_duties furnished) ≡ Some (Patches n)
    unfolding furniture_duties
    refused_by_number many =
        front_met (boxes_duties furnished.room.spec 0 furnished.boxes) _ boxes
        ∙ (this_fails _ _ _ (unless_fails _ _ (lt-leb _ _ (omega arith))) ∙ ap (λ (m : ℕ). Some (Patches m)) (sym n_is))

    pub met_by_number : n ≤ 4096 → first (furniture_duties furnished) ≡ None
    unfolding furniture_duties
    met_by_number few = front_met (boxes_duties furnished.room.spec 0 furnished.boxes) _ boxes ∙ (this_met _ _ (unless_holds _ _ (le-leb _ _ (omega arith))) ∙ none_left)
