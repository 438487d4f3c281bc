use Rattle.std.proofs.Common.{arith}
use Rattle.transfer_shares.proofs.Totals.{shares_by_places}
use Rattle.transfer_shares.proofs.quick_sharing.share_in.Goals as goal

pub returns : goal.returns
returns c = shares_by_places c.loop-i.i c.args.row.now.total c.args.weights.now c.loop-i.into c.requires.sum (omega arith) (omega arith) c.loop-i.invariant
