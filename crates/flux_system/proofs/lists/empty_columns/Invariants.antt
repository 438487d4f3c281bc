use Rattle.std.proofs.Common.{◌≡◌, [], map}
use Rattle.std.specs.List.{range_with_len}
use Rattle.flux_system.proofs.lists.empty_columns.Given as goal

abbrev pub invariant-loop-count : goal.invariant-loop-count
invariant-loop-count l = l.columns.items ≡ map (λ _. []) (range_with_len 0 l.count-index)
