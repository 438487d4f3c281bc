use Rattle.std.proofs.Common.{◌≡◌, ◌++◌, map}
use Rattle.std.specs.List.{range_with_len, flat_map}
use Rattle.workload.specs.Generator.{luminaire_at, luminaire_row}
use Rattle.workload.proofs.layouts.Layout.luminaires.Given as goal

abbrev pub invariant-loop-row : goal.invariant-loop-row
invariant-loop-row l = l.fixtures.items ≡ flat_map (luminaire_row l.self) (range_with_len 0 l.row)

abbrev pub invariant-loop-column : goal.invariant-loop-column
invariant-loop-column l =
    l.fixtures.items ≡ flat_map (luminaire_row l.self) (range_with_len 0 l.row) ++ map (λ column. luminaire_at l.self column l.row) (range_with_len 0 l.column)
