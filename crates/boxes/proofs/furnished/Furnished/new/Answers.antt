use Rattle.std.proofs.Common.{List, sym, subst, arith}
use Rattle.room_patches.specs.declared.box_spec.BoxSpec.{BoxSpec}
use Rattle.boxes.specs.Shapes.{IsFurnishedWithPatches}
use Rattle.boxes.proofs.Tests.{boxes_where_met, refused_by_box, refused_by_number, met_by_number}
use Rattle.boxes.proofs.furnished.Furnished.new.Goals as goal

pub returns-in-Some-clause-answer : goal.returns-in-Some-clause-answer
returns-in-Some-clause-answer c = λ ne.
    refused_by_box (record { room = c.args.room; boxes = c.args.boxes.now }) c.in-Some.fault (rw (← c.spec.ensures.value) (sym c.in-Some.ensures))

pub patch_count-n-requires-clause-valid : goal.patch_count-n-requires-clause-valid
patch_count-n-requires-clause-valid c = boxes_where_met c.args.room.spec 0 c.args.boxes.now (rw (← c.spec.ensures.value) (sym c.in_default.ensures))

pub returns-then-n-clause-answer : goal.returns-then-n-clause-answer
returns-then-n-clause-answer c = λ ne.
    refused_by_number (record { room = c.args.room; boxes = c.args.boxes.now }) (rw (← c.spec.ensures.value) (sym c.in_default.ensures)) _ c.patch_count-n.ensures.value c.if-n.true

pub kept_patches-requires-clause-boxes : goal.kept_patches-requires-clause-boxes
kept_patches-requires-clause-boxes c = boxes_where_met c.args.room.spec 0 c.args.boxes.now (rw (← c.spec.ensures.value) (sym c.in_default.ensures))

pub invariant_of-result : goal.invariant_of-result
invariant_of-result c =
    subst (λ (boxes : List BoxSpec). IsFurnishedWithPatches (record { room = c.args.room; boxes = boxes }) c.in_ok-patches.patches.items) (sym c.in_ok-boxes.ensures.items)
    (record {
      valid = boxes_where_met c.args.room.spec 0 c.args.boxes.now (rw (← c.spec.ensures.value) (sym c.in_default.ensures));
      all = c.in_ok-patches.ensures.all;
      some = omega arith;
      few = omega arith;
      patch = c.in_ok-patches.ensures.patch;
    })

pub returns-clause-valid : goal.returns-clause-valid
returns-clause-valid c = boxes_where_met c.args.room.spec 0 c.args.boxes.now (rw (← c.spec.ensures.value) (sym c.in_default.ensures))

pub returns-clause-answer : goal.returns-clause-answer
returns-clause-answer c = met_by_number (record { room = c.args.room; boxes = c.args.boxes.now }) (rw (← c.spec.ensures.value) (sym c.in_default.ensures)) _ c.patch_count-n.ensures.value c.if-n.false
