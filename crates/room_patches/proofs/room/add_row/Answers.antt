use Rattle.std.proofs.Common.{◌++◌, ◌∷◌, [], ◌∙◌}
use Rattle.room_patches.specs.Patches.{patch_at}
use Rattle.laws.proofs.Ranges.{values-more}
use Rattle.room_patches.proofs.room.add_row.Goals as goal

pub loop-column-preserved : goal.loop-column-preserved
loop-column-preserved c =
    c.in_ok-push.ensures.items
    ∙ ((λ k. c.loop-column.invariant k ++ c.patch_at.ensures k ∷ [])
    ∙ values-more (λ column. patch_at (record { spec = c.args.room; regions = c.args.regions.now }) c.args.surface column c.args.row) c.args.all.now.items c.loop-column.column)
