use Rattle.std.proofs.Common.{◌∙◌, inl, inr, refl, arith}
use Rattle.transfer_shares.proofs.Weights.{weightless, weighty_by_product, weight_is-le}
use Rattle.transfer_shares.proofs.quick_weighing.quick_weight.Goals.{then-there-eq0-via-then-there-eq0, then-there-eq0-via-else-there-eq0+then-back-eq0}
use Rattle.transfer_shares.proofs.quick_weighing.quick_weight.Goals as goal

pub returns-then-there-eq0-clause-value : goal.returns-then-there-eq0-clause-value
returns-then-there-eq0-clause-value c =
    weightless c.args.from.now c.args.to.now _ _ (c.from-there.ensures ∙ c.distance_ahead.ensures.value) (c.from-back.ensures ∙ c.distance_ahead-2.ensures.value)
    (elim c.then-there-eq0.branch [
      | then-there-eq0-via-then-there-eq0 w ↦ inl w.if-there-eq0.true
      | then-there-eq0-via-else-there-eq0+then-back-eq0 w ↦ inr w.if-back-eq0.true
    ])

pub returns-in-Some-clause-value : goal.returns-in-Some-clause-value
returns-in-Some-clause-value c =
    c.remembered_quotient.ensures
    ∙ weighty_by_product c.args.from.now c.args.to.now _ _ (c.from-there.ensures ∙ c.distance_ahead.ensures.value) (c.from-back.ensures ∙ c.distance_ahead-2.ensures.value)
    (omega arith) (omega arith) _ c.squared_distance-square.ensures.value c.args.to.now.area c.in-Some.top refl c.in-Some.ensures.1

pub returns-in-Some-clause-most : goal.returns-in-Some-clause-most
returns-in-Some-clause-most c =
    let is = returns-in-Some-clause-value c in
    let le = weight_is-le c.args.from.now c.args.to.now _ _ (c.from-there.ensures ∙ c.distance_ahead.ensures.value) (c.from-back.ensures ∙ c.distance_ahead-2.ensures.value)
    (omega arith) (omega arith) _ c.squared_distance-square.ensures.value c.requires.from c.requires.to c.args.to.now.area refl in
    omega arith
