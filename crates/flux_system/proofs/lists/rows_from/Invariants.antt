use Rattle.std.proofs.Common.{◌≡◌, map}
use Rattle.std.specs.List.{range_with_len}
use Rattle.flux_system.specs.Entries.{row_entries}
use Rattle.flux_system.specs.Shapes.{system_without_threshold}
use Rattle.flux_system.proofs.lists.rows_from.Given as goal

abbrev pub invariant-loop-k : goal.invariant-loop-k
invariant-loop-k l = l.rows.items ≡ map (row_entries (system_without_threshold l.reflectance l.shares)) (range_with_len l.first l.k)
