use Rattle.std.proofs.Common.{[], ◌∷◌, ◌++◌, ◌+◌, refl, sym, ◌∙◌, arith}
use Rattle.std.proofs.lemmas.List.FromFn.{map-range_with_len_more}
use Rattle.flux_system.specs.System.{FluxSystem}
use Rattle.flux_system.specs.Entries.{row_entries}
use Rattle.flux_system.specs.Shapes.{system_without_threshold}
use Rattle.flux_system.proofs.Dense.{lists-length, row-entries}
use Rattle.flux_system.proofs.lists.rows_from.Goals as goal

pub entries_of-requires : goal.entries_of-requires
entries_of-requires c = let long = lists-length _ _ _ c.row_at.ensures in let few = c.requires.few in omega arith

pub loop-k-preserved : goal.loop-k-preserved
loop-k-preserved c =
    let s : FluxSystem = system_without_threshold c.args.reflectance.now c.args.shares.now in
    c.in_ok-push.ensures.items
    ∙ ((λ k. c.loop-k.invariant k ++ (c.in_ok-entries_of.ensures ∙ row-entries s (c.args.first + c.loop-k.k) c.row_at.result.now c.row_at.ensures) k ∷ [])
    ∙ sym (map-range_with_len_more (row_entries s) c.args.first c.loop-k.k (c.args.first + c.loop-k.k) refl))
