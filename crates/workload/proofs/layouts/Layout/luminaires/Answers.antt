use Rattle.std.proofs.Common.{◌≡◌, ℕ, ◌++◌, ◌∷◌, [], map, sym, ap, ◌∙◌, arith}
use Rattle.std.specs.List.{range_with_len, flat_map}
use Rattle.laws.proofs.Ranges.{values_grow, flat_map-more}
use Rattle.workload.specs.Generator.{luminaire_at, luminaire_row}
use Rattle.workload.proofs.layouts.Layout.luminaires.Goals as goal

pub loop-column-preserved : goal.loop-column-preserved
loop-column-preserved c =
    values_grow (λ column. luminaire_at c.args.self column c.loop-row.row) (flat_map (luminaire_row c.args.self) (range_with_len 0 c.loop-row.row)) c.loop-column.column
    _ _ c.loop-column.invariant
    (c.in_ok-push.ensures.items ∙ (λ k. c.loop-column.fixtures.items ++ c.luminaire_at.ensures k ∷ []))

pub loop-row-preserved : goal.loop-row-preserved
unfolding luminaire_row
loop-row-preserved c =
    let all : c.loop-column.column ≡ c.args.self.columns = omega arith in
    let rows = flat_map (luminaire_row c.args.self) (range_with_len 0 c.loop-row.row) in
    c.loop-column.invariant
    ∙ (ap (λ (count : ℕ). rows ++ map (λ column. luminaire_at c.args.self column c.loop-row.row) (range_with_len 0 count)) all
    ∙ sym (flat_map-more (luminaire_row c.args.self) c.loop-row.row))
