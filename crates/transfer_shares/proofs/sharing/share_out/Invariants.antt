use Rattle.std.proofs.Common.{◌≡◌, take, map}
use Rattle.transfer_shares.specs.Shares.{weight_share}
use Rattle.transfer_shares.proofs.sharing.share_out.Given as goal

abbrev pub invariant-loop-i : goal.invariant-loop-i
invariant-loop-i l = take l.i l.into ≡ map (weight_share l.total) (take l.i l.weights)
