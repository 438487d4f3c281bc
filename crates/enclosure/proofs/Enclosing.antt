-- The interval encloses what every solution has.
use Rattle.std.proofs.Common.{◌≡◌, ℕ, ◌+◌, ◌*◌, ◌<◌, ◌≤◌, get_or, ap, subst, sym, arith, ℤ, pos, ◌≤ℤ◌, ◌-ℤ◌}
use Rattle.std.specs.Prelude.{slice_index}
use Rattle.std.proofs.lemmas.Int.{ints}
use Rattle.std.proofs.lemmas.Nat.{mul-le}
use Rattle.std.proofs.lemmas.Grind.{div_ceil_times}
use Rattle.std.proofs.Math.Nat.{le_of_mul-le-mul_left}
use mathlib.Core.Logic.{dite}
use native.Mathlib.Decide.{ℕ_discrete}
use borrow.Author.Differences.{up}
use Rattle.flux_system.specs.Sums.{sum_below}
use Rattle.flux_system.specs.System.{FluxSystem, scale, patches, coefficient, keep}
use Rattle.flux_system.specs.Validity.{IsSystem}
use Rattle.flux_system.proofs.Sums.{sum-zero, sum-same, sum-scale, sum-le, le-sum}
use Rattle.flux_system.proofs.Keeping.{keep-above}
use Rattle.flux_ledger.specs.declared.ledger.Ledger.{Ledger}
use Rattle.flux_ledger.specs.Balance.{unshot_at, unshot}
use Rattle.exact_model.specs.Solution.{IsSolution, Encloses}
use Rattle.exact_model.proofs.Missing.{missing_flux}
use Rattle.exact_model.proofs.Solutions.{IsNatural, natural_of}
use Rattle.enclosure.specs.Interval.{spill_of, greatest_below, rise_from, low_end, high_end, interval_of, IsDone, EnclosesAll}
use Rattle.enclosure.proofs.Greatest.{le-greatest}

-- What is passed on of x is bounded by its whole weight, total * spill: where m weighs each c times the spill, it is at most m * total.
module _ (n : ℕ) (c x w : ℕ → ℕ) (some : (i : ℕ) → i < n → 0 < w i) (m spill total : ℕ) (rises : (i : ℕ) → i < n → c i * spill ≤ m * w i) (weighed : sum_below n (λ i. x i * w i) ≤ total * spill) where
  passed_bound : sum_below n (λ i. c i * x i) ≤ m * total
  passed_bound = dite (ℕ_discrete spill 0) nothing something
    where
      nothing : spill ≡ 0 → sum_below n (λ i. c i * x i) ≤ m * total
      nothing e =
          let none : (i : ℕ) → i < n → c i * x i ≡ 0 = λ i h.
          let one = le-sum n (λ k. x k * w k) i h in
          let z = ap (λ (y : ℕ). total * y) e in
          let q = some i h in
          let up' = mul-le (x i) 1 (x i) (w i) (omega arith) (omega arith) in
          let zero' : x i ≡ 0 = omega arith in
          let by = ap (λ (y : ℕ). c i * y) zero' in
          omega arith in
          let all = sum-same n (λ i. c i * x i) (λ _. 0) none in
          let null = sum-zero n in
          omega arith

      something : (spill ≡ 0 → ⊥) → sum_below n (λ i. c i * x i) ≤ m * total
      something ne =
          let each = sum-le n (λ i. spill * (c i * x i)) (λ i. m * (x i * w i)) (λ i h. let r = rises i h in let by = mul-le (c i * spill) (x i) (m * w i) (x i) r (omega arith) in omega arith) in
          let left = sum-scale n spill (λ i. c i * x i) in
          let right = sum-scale n m (λ i. x i * w i) in
          let bound = mul-le m (sum_below n (λ i. x i * w i)) m (total * spill) (omega arith) weighed in
          le_of_mul-le-mul_left {k = spill} (omega arith) (omega arith)

-- with what is passed on at most m whole units for each of den
reach : (den r e ceil m x passed : ℕ) → scale * x ≡ den * (scale * r + e) + passed → passed ≤ m * (den * scale) → e ≤ ceil * scale → (den * r ≤ x) × (x ≤ den * (r + ceil + m))
reach den r e ceil m x passed is by up_to =
    let most = mul-le den e den (ceil * scale) (omega arith) up_to in
    (omega arith, omega arith)

-- what was taken, with what is missing beyond it
ends_by : (z : ℤ) (den t r ceil m x : ℕ) → z -ℤ pos (den * t) ≡ pos x → den * r ≤ x → x ≤ den * (r + ceil + m)
    → (pos (den * (t + r)) ≤ℤ z) × (z ≤ℤ pos (den * (t + r + ceil + m)))
ends_by z den t r ceil m x is low high = (omega (arith, ints), omega (arith, ints))

module _ (s : FluxSystem) (valid : IsSystem s) where
  keeps_some : (i : ℕ) → i < patches s → 0 < keep s i
  keeps_some i h = let above = keep-above s valid i h in omega arith

  -- what spills, at the greatest rise
  rises : (spill j i : ℕ) → i < patches s → coefficient s i j * spill ≤ greatest_below (patches s) (rise_from s spill j) * keep s i
  rises spill j i h =
      let reached = (div_ceil_times (coefficient s i j * spill) (keep s i) (keeps_some i h)).0 in
      let le = le-greatest (patches s) (rise_from s spill j) i h in
      let by = mul-le (rise_from s spill j i) (keep s i) (greatest_below (patches s) (rise_from s spill j)) (keep s i) le (omega arith) in
      le-trans _ _ _ reached by
    where
      le-trans : (a b c : ℕ) → a ≤ b → b ≤ c → a ≤ c
      le-trans a b c l r = omega arith

  module _ (l : Ledger) (done : IsDone s l) where
    -- What a solution has beyond what was taken solves the system for what is unshot.
    missing_natural : (num : ℕ → ℤ) (den : ℕ) → IsSolution s (slice_index l.direct) num den
        → IsNatural s (unshot_at l) (λ j. num j -ℤ pos (den * slice_index l.taken j)) den (λ j. up (num j -ℤ pos (den * slice_index l.taken j)))
    missing_natural num den solution =
        natural_of s valid (unshot_at l) (λ j. num j -ℤ pos (den * slice_index l.taken j)) den
        (missing_flux s (slice_index l.direct) (slice_index l.taken) (unshot_at l) num den solution (λ j h. let e = done.balanced.balance j h in omega arith))

    encloses_at : (j : ℕ) → j < patches s → Encloses s (slice_index l.direct) j (low_end l j) (high_end s l j)
    encloses_at j h num den solution =
        let n = patches s in
        let x : ℕ → ℕ = λ i. up (num i -ℤ pos (den * slice_index l.taken i)) in
        let spill = spill_of s l in
        let rise = greatest_below n (rise_from s spill j) in
        let missing = missing_natural num den solution in
        let enough = (div_ceil_times (unshot s l) scale (omega arith)).0 in
        let weighed : sum_below n (λ i. x i * keep s i) ≤ (den * scale) * spill =
        weighed_by (sum_below n (λ i. x i * keep s i)) den (unshot s l) spill missing.kept enough in
        let passed = passed_bound n (λ i. coefficient s i j) x (keep s) keeps_some rise spill (den * scale) (rises spill j) weighed in
        let rounded = (div_ceil_times (get_or l.err j 0) scale (omega arith)).0 in
        let to = reach den (get_or l.residual j 0) (get_or l.err j 0) _ rise (x j) _ (missing.equation j h) passed rounded in
        ends_by (num j) den (get_or l.taken j 0) (get_or l.residual j 0) _ rise (x j) (missing.same j h) to.0 to.1
      where
        weighed_by : (sum den unshot spill : ℕ) → sum ≡ den * unshot → unshot ≤ spill * scale → sum ≤ (den * scale) * spill
        weighed_by sum den unshot spill is le = let by = mul-le den unshot den (spill * scale) (omega arith) le in omega arith

-- every interval of a ledger that is done encloses what every solution has there
pub encloses_all : (s : FluxSystem) → IsSystem s → (l : Ledger) → IsDone s l → EnclosesAll s l
encloses_all s valid l done = encloses_at s valid l done

-- the same of a pair that is the interval
pub encloses_pair : (s : FluxSystem) → IsSystem s → (l : Ledger) → IsDone s l → (j : ℕ) → j < patches s → (ends : ℕ × ℕ) → ends ≡ interval_of s l j → Encloses s (slice_index l.direct) j ends.0 ends.1
encloses_pair s valid l done j h ends is =
    subst (λ (e : ℕ × ℕ). Encloses s (slice_index l.direct) j e.0 e.1) (sym is) (encloses_at s valid l done j h)
