use Rattle.exact_model.proofs.Exact.{keep_the_direct_flux}
use Rattle.exact_model.proofs.laws.patches_keep_the_direct_flux.Goals as goal

pub returns : goal.returns
returns c = keep_the_direct_flux
