use Rattle.exact_model.proofs.Exact.{agree}
use Rattle.exact_model.proofs.laws.solutions_agree.Goals as goal

pub returns : goal.returns
returns c = agree
