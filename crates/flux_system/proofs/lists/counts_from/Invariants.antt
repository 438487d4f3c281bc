use Rattle.std.proofs.Common.{◌≡◌, length}
use Rattle.flux_system.proofs.lists.counts_from.Given as goal

abbrev pub invariant-loop-i : goal.invariant-loop-i
invariant-loop-i l = length l.counts.items ≡ l.many
