use Rattle.std.proofs.Common.{ap, ◌∙◌, length, arith}
use Rattle.shot_core.specs.Hands.{Holdings}
use Rattle.shot_core.proofs.Carrying.{zeros, carried}
use Rattle.shot_core.proofs.hands.Hand.carry.Goals as goal

pub returns-clause-hand : goal.returns-clause-hand
returns-clause-hand c =
    let i = c.loop-j.invariant in
    let of_amounts = i.of_amounts in
    let end = c.len-j-end.ensures ∙ ap (λ (hand : Holdings). length hand.amounts) c.self.view_is in
    carried c.args.self.now _ c.args.highs.now c.args.lows.now i.of_amounts i.of_fractions i.small
    (λ j h. let total = i.total j h in let high = i.high_done j (omega arith) in let low = i.low_done j (omega arith) in omega arith)

pub returns-clause-highs : goal.returns-clause-highs
returns-clause-highs c =
    let i = c.loop-j.invariant in
    let end = c.len-j-end.ensures ∙ ap (λ (hand : Holdings). length hand.amounts) c.self.view_is in
    zeros _ c.loop-j.highs i.of_highs (λ j h. i.high_done j (omega arith))

pub returns-clause-lows : goal.returns-clause-lows
returns-clause-lows c =
    let i = c.loop-j.invariant in
    let end = c.len-j-end.ensures ∙ ap (λ (hand : Holdings). length hand.amounts) c.self.view_is in
    zeros _ c.loop-j.lows i.of_lows (λ j h. i.low_done j (omega arith))
