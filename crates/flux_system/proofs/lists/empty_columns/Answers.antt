use Rattle.std.proofs.Common.{[], ◌∷◌, ◌++◌, sym, ◌∙◌, arith}
use Rattle.std.proofs.lemmas.List.FromFn.{map-range_with_len_more}
use Rattle.flux_system.proofs.lists.empty_columns.Goals as goal

pub loop-count-preserved : goal.loop-count-preserved
loop-count-preserved c =
    c.in_ok-push.ensures.items ∙ ((λ k. c.loop-count.invariant k ++ c.in_ok-with_capacity.ensures k ∷ []) ∙ sym (map-range_with_len_more _ 0 c.loop-count.count-index c.loop-count.count-index (omega arith)))
