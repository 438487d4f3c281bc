use Rattle.std.proofs.Common.{◌∙◌, ◌≤◌, ◌*◌, inl, inr, arith}
use Rattle.room_patches.proofs.Distances.{squared_distance_comm}
use Rattle.grids.proofs.Quotients.{below_by}
use Rattle.grids.proofs.Seeing.{unseen, seen, product-le, coefficient-le}
use Rattle.grids.proofs.coefficients.coefficient.Goals.{then-there-eq0-via-then-there-eq0, then-there-eq0-via-else-there-eq0+then-back-eq0, After-squared_distance}
use Rattle.grids.proofs.coefficients.coefficient.Goals as goal

pub returns-then-there-eq0-clause-value : goal.returns-then-there-eq0-clause-value
returns-then-there-eq0-clause-value c =
    unseen c.args.patch.now c.args.point _ _ (c.from-there.ensures ∙ c.in_front.ensures.value) (c.from-back.ensures ∙ c.height_over.ensures.value)
    (elim c.then-there-eq0.branch [
      | then-there-eq0-via-then-there-eq0 w ↦ inl w.if-there-eq0.true
      | then-there-eq0-via-else-there-eq0+then-back-eq0 w ↦ inr w.if-back-eq0.true
    ])

-- both distances are within that of the middle
within : (c : After-squared_distance) → c.from-there.result * c.from-back.result ≤ c.squared_distance.result
within c =
    let turned = squared_distance_comm c.args.patch.now.centre c.args.point in
    let there : c.from-there.result * c.from-there.result ≤ c.squared_distance.result = rw (c.from-there.ensures, c.squared_distance.ensures.value) c.in_front.ensures.no_farther in
    let back : c.from-back.result * c.from-back.result ≤ c.squared_distance.result = rw (c.from-back.ensures, c.squared_distance.ensures.value, turned) c.height_over.ensures.no_farther in
    product-le _ _ _ there back

pub scaled_quotient-requires-clause-top : goal.scaled_quotient-requires-clause-top
scaled_quotient-requires-clause-top c = within c

pub returns-clause-value : goal.returns-clause-value
returns-clause-value c =
    seen c.args.patch.now c.args.point _ _ (c.from-there.ensures ∙ c.in_front.ensures.value) (c.from-back.ensures ∙ c.height_over.ensures.value)
    (omega arith) (omega arith) _ c.squared_distance.ensures.value _ c.scaled_quotient.ensures

pub returns-clause-most : goal.returns-clause-most
returns-clause-most c =
    coefficient-le c.args.patch.now c.args.point _ _ (c.from-there.ensures ∙ c.in_front.ensures.value) (c.from-back.ensures ∙ c.height_over.ensures.value)
    (omega arith) (omega arith) _ c.squared_distance.ensures.value c.requires.apart (within (goal.at.returns-clause-most c).After-squared_distance) _ (below_by _ _ _ c.scaled_quotient.ensures)
