use Rattle.std.proofs.Common.{◌≡◌, length}
use Rattle.flux_system.proofs.lists.count_row.Given as goal

abbrev pub invariant-loop-j : goal.invariant-loop-j
invariant-loop-j l = length l.counts ≡ length l.row
