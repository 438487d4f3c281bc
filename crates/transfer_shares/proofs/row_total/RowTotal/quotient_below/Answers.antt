use Rattle.transfer_shares.proofs.Reciprocals.{cut_quotient-le}
use Rattle.transfer_shares.proofs.row_total.RowTotal.quotient_below.Goals as goal

pub returns : goal.returns
returns c = cut_quotient-le c.args.whole c.args.self.now.inverse c.args.self.now.total _ _ c.from.ensures c.from-2.ensures c.args.self.now.below
