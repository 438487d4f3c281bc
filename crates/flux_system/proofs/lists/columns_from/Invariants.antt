use Rattle.std.proofs.Common.{◌≡◌, ◌≤◌, ◌-◌, map}
use Rattle.std.specs.List.{range_with_len}
use Rattle.flux_system.specs.Entries.{column_entries}
use Rattle.flux_system.specs.Shapes.{system_without_threshold}
use Rattle.flux_system.proofs.lists.columns_from.Given as goal

abbrev pub invariant-loop-done : goal.invariant-loop-done
invariant-loop-done l = record {
  columns : l.columns.items ≡ map (column_entries (system_without_threshold l.reflectance l.shares)) (range_with_len l.first l.done);
  inside : l.done ≤ l.many;
}

abbrev pub decreases-loop-done : goal.decreases-loop-done
decreases-loop-done l = l.many - l.done
