use Rattle.exact_model.proofs.Missing.{missing_flux}
use Rattle.exact_model.proofs.laws.missing_flux_comes_from_the_unshot.Goals as goal

pub returns : goal.returns
returns c = missing_flux
