use Rattle.std.proofs.Common.{◌≡◌, ◌+◌, ◌*◌, map}
use Rattle.std.specs.Prelude.{slice_index}
use Rattle.std.specs.List.{range_with_len}
use Rattle.flux_system.specs.Entries.{entries_below}
use Rattle.flux_system.proofs.lists.group_from.Given as goal

abbrev pub invariant-loop-i : goal.invariant-loop-i
invariant-loop-i l = l.columns.items ≡ map (λ j. entries_below l.i (λ i. slice_index l.shares (i * l.n + (l.first + j)))) (range_with_len 0 l.many)
