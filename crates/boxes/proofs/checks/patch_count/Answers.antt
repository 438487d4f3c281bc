use Rattle.std.proofs.Common.{◌+◌, List, length, sym, ap, ◌∙◌}
use Rattle.std.specs.List.{flat_map}
use Rattle.std.proofs.lemmas.List.{take_all}
use Rattle.room_patches.specs.declared.box_spec.BoxSpec.{BoxSpec}
use Rattle.room_patches.specs.Patches.{patches as patches_of_room}
use Rattle.boxes.specs.Boxes.{box_patches}
use Rattle.boxes.proofs.Counts.{length-furnished}
use Rattle.boxes.proofs.checks.patch_count.Goals as goal

pub box_patch_count-n-requires-clause-nx : goal.box_patch_count-n-requires-clause-nx
box_patch_count-n-requires-clause-nx c = (c.requires.valid c.loop-spec.spec-index _ c.loop-spec-test.true).nx.few

pub box_patch_count-n-requires-clause-ny : goal.box_patch_count-n-requires-clause-ny
box_patch_count-n-requires-clause-ny c = (c.requires.valid c.loop-spec.spec-index _ c.loop-spec-test.true).ny.few

pub box_patch_count-n-requires-clause-nz : goal.box_patch_count-n-requires-clause-nz
box_patch_count-n-requires-clause-nz c = (c.requires.valid c.loop-spec.spec-index _ c.loop-spec-test.true).nz.few

pub returns-clause-value : goal.returns-clause-value
returns-clause-value c =
    c.loop-spec.invariant.value
    ∙ (ap (λ (boxes : List BoxSpec). length (patches_of_room c.args.room.now) + length (flat_map box_patches boxes)) (take_all c.loop-spec.spec-index c.args.boxes.now c.loop-spec-test.false)
    ∙ sym (length-furnished c.args.room.now c.args.boxes.now))
