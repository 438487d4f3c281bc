use Rattle.std.proofs.Common.{◌++◌, List, get_or, take, sym, ap, ◌∙◌}
use Rattle.std.specs.List.{flat_map}
use Rattle.std.proofs.lemmas.List.{take_more, take_all, flat_map_more}
use Rattle.boxes.specs.declared.face.Face.{Face}
use Rattle.boxes.specs.declared.face.Face.TheVariants.{Bottom}
use Rattle.boxes.specs.Boxes.{faces, patches_of, box_patches}
use Rattle.boxes.proofs.furnished.add_box.Goals as goal

pub loop-face-preserved : goal.loop-face-preserved
loop-face-preserved c =
    c.in_ok-add_face.ensures
    ∙ ((λ k. c.loop-face.invariant k ++ patches_of c.args.spec (get_or faces c.loop-face.face-index Bottom))
    ∙ (flat_map_more (patches_of c.args.spec) c.args.all.now.items (take c.loop-face.face-index faces) (get_or faces c.loop-face.face-index Bottom)
    ∙ ap (λ (front : List Face). c.args.all.now.items ++ flat_map (patches_of c.args.spec) front) (sym (take_more faces c.loop-face.face-index Bottom c.loop-face-test.true))))

pub returns : goal.returns
unfolding box_patches
returns c =
    c.loop-face.invariant
    ∙ ap (λ (front : List Face). c.args.all.now.items ++ flat_map (patches_of c.args.spec) front) (take_all c.loop-face.face-index faces c.loop-face-test.false)
