use Rattle.std.proofs.Common.{◌*◌, ◌-◌, ◌≤◌}
use Rattle.transfer_shares.proofs.row_total.RowTotal.share.Given as goal

abbrev pub invariant-loop-share : goal.invariant-loop-share
invariant-loop-share l = l.share * l.total ≤ l.whole

abbrev pub decreases-loop-share : goal.decreases-loop-share
decreases-loop-share l = l.whole - l.share * l.total
