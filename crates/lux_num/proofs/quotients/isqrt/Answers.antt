use Rattle.lux_num.proofs.Roots.{root_is}
use Rattle.lux_num.proofs.quotients.isqrt.Goals as goal

pub returns-in-Err-clause-value : goal.returns-in-Err-clause-value
returns-in-Err-clause-value c = root_is c.args.x c.isqrt.result c.isqrt.ensures.square_le c.isqrt.ensures.next_square_gt
