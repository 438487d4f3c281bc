use Rattle.std.proofs.Common.{◌+◌, ◌*◌, ◌<◌, ◌≤◌, ◌^◌}
use Rattle.lux_num.proofs.quotients.root_by_steps.Given as goal

abbrev pub invariant-loop-root : goal.invariant-loop-root
invariant-loop-root l = record { positive : 0 < l.root; small : l.root ≤ 2 ^ 32; above : l.x < (l.root + 1) * (l.root + 1) }

abbrev pub decreases-loop-root : goal.decreases-loop-root
decreases-loop-root l = l.root
