use Rattle.std.proofs.Common.{◌≡◌, ℕ, ◌≤◌, get_or, inl, inr, ap, arith}
use Rattle.std.proofs.lemmas.Bool.{cases_lt}
use Rattle.picker.proofs.Maxima.{greatest_value-least}
use Rattle.picker.proofs.picks.greatest_value.Goals.{then-value-most, else-value-most}
use Rattle.picker.proofs.picks.greatest_value.Goals as goal

-- the greater of the most so far and the value
is_greater : (c : goal.Joined-value-most) → (get_or c.args.values.now c.loop-value.value-index 0 ≤ c.if-value-most.most) × (c.loop-value.most ≤ c.if-value-most.most) × ((m : ℕ) → get_or c.args.values.now c.loop-value.value-index 0 ≤ m → c.loop-value.most ≤ m → c.if-value-most.most ≤ m)
is_greater c =
    elim c.if-value-most.branch [
      | then-value-most w ↦ let is = w.most-is in let more = w.if-value-most.true in (omega arith, omega arith, λ m value most. omega arith)
      | else-value-most w ↦ let is = w.most-is in let less = w.if-value-most.false in (omega arith, omega arith, λ m value most. omega arith)
    ]

pub loop-value-preserved : goal.loop-value-preserved
loop-value-preserved c =
    let i = c.loop-value.invariant in
    let at : ℕ = c.loop-value.value-index in
    let greater = is_greater c in
    record {
      bound = λ k h.
          elim (cases_lt k at) [
            | inl before ↦ let below = i.bound k before in let more = greater.1 in omega arith
            | inr not ↦ let same : k ≡ at = omega arith in let value = ap (λ (j : ℕ). get_or c.args.values.now j 0) same in let more = greater.0 in omega arith
          ];
      least = λ m each. greater.2 m (each at (omega arith)) (i.least m (λ k h. each k (omega arith)));
    }

pub returns : goal.returns
returns c =
    let i = c.loop-value.invariant in
    let end = c.loop-value-test.false in
    greatest_value-least c.args.values.now c.loop-value.most (λ k h. i.bound k (omega arith)) (λ m each. i.least m (λ k h. each k (omega (arith, c.loop-value.auto))))
