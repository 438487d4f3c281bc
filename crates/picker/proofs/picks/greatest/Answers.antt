use Rattle.std.proofs.Common.{ℕ, Option, sym, ap, subst, ◌∙◌, arith}
use Rattle.picker.specs.Picks.{first_reaching, IsPick}
use Rattle.picker.proofs.Maxima.{value_below}
use Rattle.picker.proofs.Choices.{greatest_pick-none, greatest_pick-first, IsPick-None}
use Rattle.picker.proofs.picks.greatest.Goals as goal

pub returns-then-most-threshold-clause-pick : goal.returns-then-most-threshold-clause-pick
returns-then-most-threshold-clause-pick c =
    IsPick-None c.args.values.now c.args.threshold (λ k h. let below = value_below c.args.values.now k h in let most = c.greatest_value-most.ensures in let less = c.if-most-threshold.true in omega arith)

pub returns-then-most-threshold-clause-place : goal.returns-then-most-threshold-clause-place
returns-then-most-threshold-clause-place c = greatest_pick-none c.args.values.now c.args.threshold (let most = c.greatest_value-most.ensures in let less = c.if-most-threshold.true in omega arith)

pub returns-clause-place : goal.returns-clause-place
returns-clause-place c =
    let most = c.greatest_value-most.ensures in
    c.first_reaching.ensures
    ∙ (ap (λ (t : ℕ). first_reaching c.args.values.now t) most ∙ (greatest_pick-first c.args.values.now c.args.threshold (let enough = c.if-most-threshold.false in omega arith)).0)

pub returns-clause-pick : goal.returns-clause-pick
returns-clause-pick c =
    let most = c.greatest_value-most.ensures in
    subst (λ (answer : Option ℕ). IsPick c.args.values.now c.args.threshold answer) (sym (c.first_reaching.ensures ∙ ap (λ (t : ℕ). first_reaching c.args.values.now t) most))
    (greatest_pick-first c.args.values.now c.args.threshold (let enough = c.if-most-threshold.false in omega arith)).1
