use Rattle.std.proofs.Common.{◌++◌, ◌∷◌, [], sym, ◌∙◌}
use Rattle.laws.proofs.Ranges.{map-more}
use Rattle.grids.specs.Grids.{point_at}
use Rattle.grids.proofs.grid.all_points.Goals as goal

pub loop-g-preserved : goal.loop-g-preserved
loop-g-preserved c =
    c.in_ok-push.ensures.items ∙ ((λ k. c.loop-g.invariant k ++ c.point_at.ensures.value k ∷ []) ∙ sym (map-more (point_at c.args.grid) c.loop-g.g))
