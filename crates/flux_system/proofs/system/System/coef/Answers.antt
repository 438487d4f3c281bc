use Rattle.std.proofs.Common.{◌*◌, ◌∙◌}
use Rattle.flux_system.specs.System.{coefficient}
use Rattle.flux_system.proofs.system.System.coef.Goals as goal

pub returns : goal.returns
unfolding coefficient
returns c = (λ k. (c.from.ensures ∙ c.reflectance.ensures) k * (c.from-2.ensures ∙ c.share.ensures) k)
