use Rattle.std.proofs.Common.{refl}
use Rattle.grids.proofs.Quotients.{times-le, reciprocal-le, below_by}
use Rattle.grids.proofs.quotient.quotient_below.Goals as goal

pub returns : goal.returns
returns c =
    reciprocal-le c.args.top c.args.square _ _ c.upper_half.result c.upper_half-2.result _ refl
    (below_by _ _ _ c.upper_half.ensures) (below_by _ _ _ c.upper_half-2.ensures) (times-le c.upper_half-2.result 8)
