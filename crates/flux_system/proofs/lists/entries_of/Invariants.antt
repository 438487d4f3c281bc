use Rattle.std.proofs.Common.{◌≡◌}
use Rattle.std.specs.Prelude.{slice_index}
use Rattle.flux_system.specs.Entries.{entries_below}
use Rattle.flux_system.proofs.lists.entries_of.Given as goal

abbrev pub invariant-loop-patch : goal.invariant-loop-patch
invariant-loop-patch l = l.entries ≡ entries_below l.patch (slice_index l.row)
