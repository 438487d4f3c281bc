use Rattle.std.proofs.Common.{◌≡◌, ℕ, Option, ◌+◌, ◌%◌, get_or, inl, inr, subst, sym, ap, ◌∙◌, arith}
use Rattle.std.proofs.lemmas.Bool.{cases_lt}
use Rattle.std.proofs.Math.Nat.{add-mod_right}
use Rattle.picker.specs.Picks.{IsPick}
use Rattle.picker.proofs.Choices.{next_in_stripe, striped_pick-inside, striped_pick-outside, IsPick-first_reaching}
use Rattle.picker.proofs.picks.striped.Goals as goal

pub returns-then-values-place-clause-place : goal.returns-then-values-place-clause-place
returns-then-values-place-clause-place c =
    let i = c.loop-place.invariant in
    striped_pick-inside c.args.k c.args.m c.args.values.now c.args.threshold c.loop-place.place c.loop-place-test.true (i.own c.loop-place-test.true) c.if-values-place.true i.stripe

pub loop-place-preserved : goal.loop-place-preserved
loop-place-preserved c =
    let i = c.loop-place.invariant in
    let place = c.loop-place.place in
    let next = c.saturating_add-place.ensures in
    let own = i.own c.loop-place-test.true in
    record {
      stripe = λ j before of_j.
          elim (cases_lt j place) [
            | inl h ↦ i.stripe j h of_j
            | inr h ↦
                elim (cases_lt place j) [
                  | inl after ↦ let far = next_in_stripe c.args.m c.args.k place j own of_j after in absurd (omega arith)
                  | inr not ↦ let same : j ≡ place = omega arith in let short = c.if-values-place.false in let at = ap (λ (k : ℕ). get_or c.args.values.now k 0) same in omega arith
                ]
          ];
      own = λ inside. let is : c.saturating_add-place.result ≡ place + c.args.m = omega arith in ap (λ (k : ℕ). k % c.args.m) is ∙ (add-mod_right place c.args.m ∙ own);
    }

pub returns-clause-place : goal.returns-clause-place
returns-clause-place c =
    striped_pick-outside c.args.k c.args.m c.args.values.now c.args.threshold c.first_reaching.result (λ j h. c.loop-place.invariant.stripe j (let end = c.loop-place-test.false in omega arith)) c.first_reaching.ensures

pub returns-clause-pick : goal.returns-clause-pick
returns-clause-pick c = subst (λ (answer : Option ℕ). IsPick c.args.values.now c.args.threshold answer) (sym c.first_reaching.ensures) (IsPick-first_reaching c.args.values.now c.args.threshold)
