use Rattle.exact_model.proofs.Exact.{has_a_solution}
use Rattle.exact_model.proofs.laws.every_system_has_a_solution.Goals as goal

pub returns : goal.returns
returns c = has_a_solution
