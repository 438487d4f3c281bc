-- Generated rooms are valid, and valid rooms pass all tests.
use Rattle.std.proofs.Common.{◌≡◌, ℕ, ◌+◌, ◌*◌, ◌%◌, ◌≤◌, true, List, [], ◌∷◌, None, length, refl, ◌∙◌, arith}
use Rattle.std.specs.Prelude.{All, nat_le}
use Rattle.std.specs.List.{list_all}
use Rattle.std.proofs.lemmas.List.Elements.{All-nil, All-cons, All-head, All-tail}
use Rattle.std.proofs.lemmas.Nat.{mul-le}
use Rattle.std.proofs.lemmas.Bool.{le-leb, and_from}
use Rattle.duties.specs.Duties.{first}
use Rattle.duties.proofs.Orders.{this_met, none_left, unless_holds, front_met}
use Rattle.room_patches.specs.declared.spec.RoomSpec.{RoomSpec}
use Rattle.room_patches.specs.Patches.{patches}
use Rattle.room_patches.specs.Rooms.{plain_room}
use Rattle.room_patches.specs.Validity.{IsRoom, spec_duties, region_duty, room_duties}
use Rattle.room_patches.proofs.Counts.{length-patches}
use Rattle.workload.specs.Generator.{draw, generated_room}

pub few_patches : (room : RoomSpec) → room.nx ≤ 16 → room.ny ≤ 12 → room.nz ≤ 7 → length (patches (plain_room room)) ≤ 776
few_patches room nx ny nz =
    let floor = mul-le room.nx room.ny 16 12 nx ny in
    let left = mul-le room.ny room.nz 12 7 ny nz in
    let front = mul-le room.nx room.nz 16 7 nx nz in
    omega (arith, length-patches (plain_room room))

four_low : (wall : ℕ) → wall ≤ 950 → All (λ w. w ≤ 950) (wall ∷ wall ∷ wall ∷ wall ∷ [])
four_low wall low =
    let P : ℕ → Type 0 = λ w. w ≤ 950 in
    All-cons P wall (wall ∷ wall ∷ wall ∷ []) low (All-cons P wall (wall ∷ wall ∷ []) low (All-cons P wall (wall ∷ []) low (All-cons P wall [] low (All-nil P))))

pub generated_valid : (number : ℕ) → IsRoom (generated_room number)
unfolding generated_room
generated_valid number = record {
  width = record { short = omega arith; some = omega arith; few = omega arith };
  depth = record { short = omega arith; some = omega arith; few = omega arith };
  height = record { short = omega arith; some = omega arith; few = omega arith };
  wide = omega arith;
  deep = omega arith;
  high = omega arith;
  few = let few = few_patches (generated_room number) (omega arith) (omega arith) (omega arith) in omega arith;
  floor = omega arith;
  ceiling = omega arith;
  walls = four_low (400 + 50 * (draw number 6 % 5)) (omega arith);
}

walls_pass : (walls : List ℕ) → All (λ w. w ≤ 950) walls → list_all (λ wall. nat_le wall 950) walls ≡ true
walls_pass [] low = refl
walls_pass (wall ∷ walls) low =
    and_from _ _ (le-leb wall 950 (All-head (λ w. w ≤ 950) wall walls low)) (walls_pass walls (All-tail (λ w. w ≤ 950) wall walls low))

spec_met : (room : RoomSpec) → IsRoom room → first (spec_duties room) ≡ None
unfolding spec_duties
spec_met room valid =
    let low = and_from _ _ (and_from _ _ (le-leb room.floor 950 valid.floor) (le-leb room.ceiling 950 valid.ceiling)) (walls_pass room.walls valid.walls) in
    this_met _ _ (unless_holds _ _ (grind (arith, le-leb)))
    ∙ (this_met _ _ (unless_holds _ _ (grind (arith, le-leb)))
    ∙ (this_met _ _ (unless_holds _ _ (le-leb _ _ valid.few)) ∙ (this_met _ _ (unless_holds _ _ low) ∙ none_left)))

-- a valid room without regions passes all tests
pub room_met : (room : RoomSpec) → IsRoom room → first (room_duties (plain_room room)) ≡ None
unfolding room_duties region_duty
room_met room valid = front_met (spec_duties room) _ (spec_met room valid) ∙ (this_met _ _ refl ∙ none_left)
