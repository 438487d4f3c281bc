use Rattle.std.proofs.Common.{◌≡◌, ◌++◌, map}
use Rattle.std.specs.List.{range_with_len}
use Rattle.boxes.specs.Boxes.{patch_at}
use Rattle.boxes.proofs.furnished.add_row.Given as goal

abbrev pub invariant-loop-column : goal.invariant-loop-column
invariant-loop-column l = l.all.items ≡ l.initial.all.items ++ map (λ column. patch_at l.spec l.face column l.row) (range_with_len 0 l.column)
