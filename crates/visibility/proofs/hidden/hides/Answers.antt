use Rattle.std.proofs.Common.{sym, ◌∙◌}
use Rattle.std.proofs.lemmas.Bool.{and_left, and_right}
use Rattle.std.proofs.lemmas.Int.{to_z-of_z}
use Rattle.visibility.specs.Stretches.{hides}
use Rattle.visibility.proofs.Words.{fits}
use Rattle.visibility.proofs.hidden.hides.Goals as goal
use Rattle.visibility.proofs.hidden.hides.Goals.{then-comes_between, else-comes_between, then-comes_between-2, else-comes_between-2}

pub returns-else-comes_between-3 : goal.returns-else-comes_between-3
unfolding hides
returns-else-comes_between-3 c =
    let from_x = fits _ c.requires.from.x in
    let from_y = fits _ c.requires.from.y in
    let from_z = fits _ c.requires.from.z in
    let to_x = fits _ c.requires.to.x in
    let to_y = fits _ c.requires.to.y in
    let to_z = fits _ c.requires.to.z in
    c.if-comes_between-3.false
    ∙ sym (elim c.if-comes_between-2.branch [
      | then-comes_between-2 w ↦
          let y = simp to_z-of_z at w.comes_between-then-comes_between-2.ensures in
          and_left _ _ (and_left _ _ (and_right _ _ (sym y ∙ (sym w.value-is ∙ c.if-comes_between-3.false))))
      | else-comes_between-2 w ↦ elim c.if-comes_between.branch [
        | then-comes_between v ↦
            let x = simp to_z-of_z at v.comes_between-then-comes_between.ensures in
            and_left _ _ (and_left _ _ (and_left _ _ (sym x ∙ (sym v.value-is ∙ w.if-comes_between-2.false))))
        | else-comes_between v ↦
            let z = simp to_z-of_z at c.comes_between.ensures in
            and_left _ _ (and_right _ _ (sym z ∙ v.if-comes_between.false))
      ]
    ])
