use Rattle.exact_model.proofs.Solutions.{keep_all}
use Rattle.exact_model.proofs.laws.patches_keep_the_source.Goals as goal

pub returns : goal.returns
returns c = keep_all
