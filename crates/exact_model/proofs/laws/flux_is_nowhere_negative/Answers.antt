use Rattle.exact_model.proofs.Solutions.{not_negative}
use Rattle.exact_model.proofs.laws.flux_is_nowhere_negative.Goals as goal

pub returns : goal.returns
returns c = not_negative
