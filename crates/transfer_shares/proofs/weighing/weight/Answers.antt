use Rattle.std.proofs.Common.{◌∙◌, inl, inr, arith}
use Rattle.transfer_shares.proofs.Weights.{weightless, weighty, apart, weight-le}
use Rattle.transfer_shares.proofs.weighing.weight.Goals.{then-there-eq0-via-then-there-eq0, then-there-eq0-via-else-there-eq0+then-back-eq0}
use Rattle.transfer_shares.proofs.weighing.weight.Goals as goal

pub returns-then-there-eq0-clause-value : goal.returns-then-there-eq0-clause-value
returns-then-there-eq0-clause-value c =
    weightless c.args.from.now c.args.to.now _ _ (c.from-there.ensures ∙ c.in_front.ensures.value) (c.from-back.ensures ∙ c.in_front-2.ensures.value)
    (elim c.then-there-eq0.branch [
      | then-there-eq0-via-then-there-eq0 w ↦ inl w.if-there-eq0.true
      | then-there-eq0-via-else-there-eq0+then-back-eq0 w ↦ inr w.if-back-eq0.true
    ])

pub nonzero_div-result : goal.nonzero_div-result
nonzero_div-result c =
    apart c.args.from.now c.args.to.now _ _ (c.from-there.ensures ∙ c.in_front.ensures.value) (c.from-back.ensures ∙ c.in_front-2.ensures.value)
    (omega arith) (omega arith) _ (c.from-square.ensures ∙ c.squared_distance.ensures.value) c.requires.from c.requires.to

pub returns-clause-value : goal.returns-clause-value
returns-clause-value c =
    weighty c.args.from.now c.args.to.now _ _ (c.from-there.ensures ∙ c.in_front.ensures.value) (c.from-back.ensures ∙ c.in_front-2.ensures.value)
    (omega arith) (omega arith) _ (c.from-square.ensures ∙ c.squared_distance.ensures.value) _ c.from.ensures

pub returns-clause-most : goal.returns-clause-most
returns-clause-most c =
    weight-le c.args.from.now c.args.to.now _ _ (c.from-there.ensures ∙ c.in_front.ensures.value) (c.from-back.ensures ∙ c.in_front-2.ensures.value)
    (omega arith) (omega arith) _ (c.from-square.ensures ∙ c.squared_distance.ensures.value) c.requires.from c.requires.to _ c.from.ensures
