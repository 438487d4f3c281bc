use Rattle.std.proofs.Common.{◌≡◌, ◌∙◌, length, get_or, sym, ap, subst, arith}
use Rattle.shot_core.specs.Hands.{Holdings}
use Rattle.shot_core.specs.Shapes.{AreSmall}
use Rattle.shot_core.proofs.Carrying.{carried-amounts, carried-fractions, small_carried, total_carried, empty_batch, nothing_carried, no_high, no_low}
use Rattle.shot_core.proofs.batches.Batch.carry_to.Goals as goal

pub returns-then-self-eq0-clause-same : goal.returns-then-self-eq0-clause-same
returns-then-self-eq0-clause-same c =
    let own = c.args.self.now in
    nothing_carried c.args.hand.now c.requires.of_fractions c.requires.small own.highs own.lows
    (no_high c.args.hand.now own.highs own.lows own.shots own.most c.requires c.if-self-eq0.true) (no_low c.args.hand.now own.highs own.lows own.shots own.most c.requires c.if-self-eq0.true)

pub returns-then-self-eq0-clause-hand : goal.returns-then-self-eq0-clause-hand
returns-then-self-eq0-clause-hand c = sym (returns-then-self-eq0-clause-same c)

of_amounts : (c : goal.After-self-2-1) → length c.carry.new.self.amounts ≡ length c.args.hand.now.amounts
of_amounts c = ap (λ (h : Holdings). length h.amounts) c.carry.ensures.hand ∙ carried-amounts c.args.hand.now c.args.self.now.highs c.args.self.now.lows

of_fractions : (c : goal.After-self-2-1) → length c.carry.new.self.fractions ≡ length c.carry.new.self.amounts
of_fractions c = ap (λ (h : Holdings). length h.fractions) c.carry.ensures.hand ∙ (carried-fractions c.args.hand.now c.args.self.now.highs c.args.self.now.lows ∙ sym (of_amounts c))

small : (c : goal.After-self-2-1) → AreSmall c.carry.new.self.fractions
small c = subst (λ (h : Holdings). AreSmall h.fractions) (sym c.carry.ensures.hand) (small_carried c.args.hand.now c.args.self.now.highs c.args.self.now.lows)

pub returns-clause-batch : goal.returns-clause-batch
returns-clause-batch c =
    empty_batch c.carry.new.self (of_fractions c) (small c) c.carry.new.highs c.carry.new.lows (length c.args.hand.now.amounts) (of_amounts c) c.carry.ensures.highs c.carry.ensures.lows
    (λ j h. let fits = c.requires.fits j h in
    let same = total_carried c.args.hand.now c.args.self.now.highs c.args.self.now.lows j h in
    let amount = ap (λ (h : Holdings). get_or h.amounts j 0) c.carry.ensures.hand in
    let fraction = ap (λ (h : Holdings). get_or h.fractions j 0) c.carry.ensures.hand in
    omega arith)

pub returns-clause-same : goal.returns-clause-same
returns-clause-same c = nothing_carried c.carry.new.self (of_fractions c) (small c) c.carry.new.highs c.carry.new.lows (returns-clause-batch c).high (λ j h. let low = (returns-clause-batch c).low j h in omega arith)
