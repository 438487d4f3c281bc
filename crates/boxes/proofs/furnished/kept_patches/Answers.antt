use Rattle.std.proofs.Common.{◌≡◌, ℕ, ◌≤◌, List, ◌++◌, length, take, sym, ap, ◌∙◌}
use Rattle.std.specs.List.{flat_map}
use Rattle.std.proofs.lemmas.List.{take_all}
use Rattle.std.proofs.lemmas.List.Elements.{All-same}
use Rattle.room_patches.specs.declared.box_spec.BoxSpec.{BoxSpec}
use Rattle.room_patches.specs.declared.patch.Patch.{Patch}
use Rattle.room_patches.specs.Rooms.{Room}
use Rattle.room_patches.specs.Patches.{IsPatch, patches as patches_of_room}
use Rattle.boxes.specs.Boxes.{box_patches}
use Rattle.boxes.specs.FurnishedRooms.{patches}
use Rattle.boxes.proofs.Extents.{extents_in_room}
use Rattle.boxes.proofs.Valid.{furnished-valid}
use Rattle.boxes.proofs.furnished.kept_patches.Goals as goal

-- after the last box there are all
are_all : (room : Room) (boxes : List BoxSpec) (kept : List Patch) (i : ℕ)
    → kept ≡ patches_of_room room ++ flat_map box_patches (take i boxes)
    → length boxes ≤ i
    → kept ≡ patches (record { room = room; boxes = boxes })
unfolding patches
are_all room boxes kept i so_far done = so_far ∙ ap (λ (front : List BoxSpec). patches_of_room room ++ flat_map box_patches front) (take_all i boxes done)

pub add_box-requires : goal.add_box-requires
add_box-requires c = extents_in_room c.args.room.now.spec _ c.requires.room (c.requires.boxes c.loop-spec.spec-index _ c.loop-spec-test.true)

pub returns-clause-all : goal.returns-clause-all
returns-clause-all c = λ some. are_all c.args.room.now c.args.boxes.now c.loop-spec.all.items c.loop-spec.spec-index c.loop-spec.invariant c.loop-spec-test.false

pub returns-clause-patch : goal.returns-clause-patch
returns-clause-patch c =
    let own = All-same IsPatch (patches_of_room c.args.room.now) c.patches.result.now (sym c.patches.ensures.value) c.patches.ensures.patch in
    All-same IsPatch c.loop-spec.all.items _ (are_all c.args.room.now c.args.boxes.now c.loop-spec.all.items c.loop-spec.spec-index c.loop-spec.invariant c.loop-spec-test.false)
    (furnished-valid c.args.room.now c.args.boxes.now c.requires.room own c.requires.boxes)
