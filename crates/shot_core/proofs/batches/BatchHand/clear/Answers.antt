use Rattle.std.proofs.Common.{◌≡◌, length, set, ap, subst, sym, ◌∙◌, length-set, arith}
use Rattle.shot_core.specs.Hands.{Holdings}
use Rattle.shot_core.specs.Shapes.{AreSmall}
use Rattle.shot_core.proofs.Carrying.{nothing_carried, no_high, no_low}
use Rattle.shot_core.proofs.batches.BatchHand.clear.Goals as goal

pub returns-clause-amounts : goal.returns-clause-amounts
returns-clause-amounts c =
    let own = c.carry_to.new.self in
    let hand = c.carry_to.new.hand in
    let batch = c.carry_to.ensures.batch in
    let is = c.carry_to.ensures.hand ∙ c.self.view_is in
    let n : length c.clear.new.self.amounts ≡ length hand.amounts = ap length c.clear.ensures.amounts ∙ length-set hand.amounts c.args.target 0 in
    ap (λ (h : Holdings). h.amounts)
    (nothing_carried c.clear.new.self (ap length c.clear.ensures.fractions ∙ (batch.of_fractions ∙ sym n)) (subst AreSmall (sym c.clear.ensures.fractions) batch.small) own.highs own.lows
    (λ j h. no_high hand own.highs own.lows own.shots own.most batch c.carry_to.ensures.shots j (omega arith)) (λ j h. no_low hand own.highs own.lows own.shots own.most batch c.carry_to.ensures.shots j (omega arith)))
    ∙ (c.clear.ensures.amounts ∙ ap (λ (h : Holdings). set h.amounts c.args.target 0) is)
