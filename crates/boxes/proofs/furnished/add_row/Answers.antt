use Rattle.std.proofs.Common.{◌++◌, ◌∷◌, [], ◌∙◌}
use Rattle.laws.proofs.Ranges.{values-more}
use Rattle.boxes.specs.Boxes.{patch_at}
use Rattle.boxes.proofs.furnished.add_row.Goals as goal

pub loop-column-preserved : goal.loop-column-preserved
loop-column-preserved c =
    c.in_ok-push.ensures.items
    ∙ ((λ k. c.loop-column.invariant k ++ c.patch_at.ensures k ∷ [])
    ∙ values-more (λ column. patch_at c.args.spec c.args.face column c.args.row) c.args.all.now.items c.loop-column.column)
