use Rattle.std.proofs.Common.{arith}
use Rattle.transfer_shares.proofs.Reciprocals.{share_by_rest}
use Rattle.transfer_shares.proofs.row_total.RowTotal.share.Goals as goal

pub returns : goal.returns
returns c =
    share_by_rest c.args.self.now.total c.args.weight _ _ _ c.loop-share.share c.from-total.ensures c.from-whole.ensures c.from.ensures (omega arith) c.loop-share.invariant c.loop-share-test.false
