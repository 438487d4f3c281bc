use Rattle.std.proofs.Common.{◌+◌, ◌*◌}
use Rattle.flux_system.proofs.lists.+halves.Given as goal

abbrev pub decreases-lists_in_threads : goal.decreases-lists_in_threads
decreases-lists_in_threads g l = 2 * l.depth + 1

abbrev pub decreases-join+arg2 : goal.decreases-join+arg2
decreases-join+arg2 g l = 2 * l.depth

abbrev pub decreases-join+arg3 : goal.decreases-join+arg3
decreases-join+arg3 g l = 2 * l.depth
