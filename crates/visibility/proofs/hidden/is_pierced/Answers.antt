use Rattle.std.proofs.Common.{◌∙◌}
use Rattle.std.proofs.lemmas.Int.{to_z-of_z}
use Rattle.visibility.specs.Stretches.{all_meet, is_pierced}
use Rattle.visibility.proofs.Words.{fits}
use Rattle.visibility.proofs.hidden.is_pierced.Goals as goal

pub returns : goal.returns
unfolding is_pierced
returns c =
    let from_x = fits _ c.requires.from.x in
    let from_y = fits _ c.requires.from.y in
    let from_z = fits _ c.requires.from.z in
    let to_x = fits _ c.requires.to.x in
    let to_y = fits _ c.requires.to.y in
    let to_z = fits _ c.requires.to.z in
    let x = simp to_z-of_z at c.along.ensures.value in
    let y = simp to_z-of_z at c.along-2.ensures.value in
    let z = simp to_z-of_z at c.along-3.ensures.value in
    c.all_meet.ensures ∙ (λ k. all_meet (x k) (y k) (z k))
