use Rattle.std.proofs.Common.{◌≡◌, take, map}
use Rattle.transfer_shares.specs.Shares.{weight_share}
use Rattle.transfer_shares.proofs.quick_sharing.share_in.Given as goal

abbrev pub invariant-loop-i : goal.invariant-loop-i
invariant-loop-i l = take l.i l.into ≡ map (weight_share l.row.total) (take l.i l.weights)
