-- Bounds on what spills and on the ends of an interval.
use Rattle.std.proofs.Common.{◌≡◌, ℕ, zero, suc, ◌+◌, ◌-◌, ◌*◌, ◌<◌, ◌≤◌, List, map, get_or, subst, sym, arith}
use Rattle.std.specs.List.{sum, All, range_with_len}
use Rattle.std.proofs.lemmas.List.FromFn.{length-map-range_with_len, get_or-map-range_with_len}
use Rattle.std.specs.Int.{div_ceil}
use Rattle.std.proofs.lemmas.Nat.{mul-le}
use Rattle.std.proofs.lemmas.Grind.{div_ceil_times}
use Rattle.flux_system.specs.Sums.{sum_below}
use Rattle.flux_system.specs.System.{FluxSystem, scale, patches, coefficient, keep}
use Rattle.flux_system.specs.Validity.{IsSystem}
use Rattle.flux_system.proofs.Sums.{sum-le, le-sum, sum-front}
use Rattle.flux_system.proofs.Keeping.{passed_part-lt, keep-above}
use Rattle.flux_ledger.specs.declared.ledger.Ledger.{Ledger}
use Rattle.flux_ledger.specs.Balance.{unshot_at, unshot}
use Rattle.flux_ledger.proofs.Bounds.{balances, conserved, unshot_bound}
use Rattle.enclosure.specs.Interval.{spill_of, greatest_below, rise_from, low_end, high_end, interval_of, intervals_of, IsDone}
use Rattle.enclosure.proofs.Fractions.{div_ceil-le}
use Rattle.enclosure.proofs.Greatest.{greatest-le}

sum-all : (n k : ℕ) → sum_below n (λ _. k) ≡ n * k
sum-all zero k = omega arith
sum-all (suc n) k = omega (arith, sum-all n k)

-- what holds of f at each number below n holds of each item of the list that is made of f
All-range : {X : Type 0} (P : X → Type 0) (f : ℕ → X) (n : ℕ) → ((j : ℕ) → j < n → P (f j)) → (xs : List X) → xs ≡ map f (range_with_len 0 n) → All P xs
All-range P f n each xs is = subst (λ ys. All P ys) (sym is) (λ k d h.
    let inside : k < n = let long = length-map-range_with_len f 0 n in omega arith in
    subst P (sym (get_or-map-range_with_len f 0 n k k d inside (omega arith))) (each k inside))

module _ (s : FluxSystem) (valid : IsSystem s) where
  -- what a patch gets of what spilled, from one other
  rise-le : (spill j i : ℕ) → spill ≤ 10000000000000000 → j < patches s → i < patches s → rise_from s spill j i ≤ 200000000000000000
  rise-le spill j i few to from =
      let lt = passed_part-lt s valid i from in
      let one = le-sum (patches s) (coefficient s i) j to in
      let a = mul-le (coefficient s i j) spill 1000000000000 10000000000000000 (omega arith) few in
      div_ceil-le (coefficient s i j * spill) (keep s i) 200000000000000000 (omega arith) (omega arith)

  -- a patch passes less than nineteen times what it keeps to any other
  rise_width : (spill j i : ℕ) → j < patches s → i < patches s → rise_from s spill j i ≤ 19 * spill
  rise_width spill j i to from =
      let lt = passed_part-lt s valid i from in
      let one = le-sum (patches s) (coefficient s i) j to in
      let part : coefficient s i j ≤ 19 * keep s i = omega arith in
      let whole = mul-le (coefficient s i j) spill (19 * keep s i) spill part (omega arith) in
      div_ceil-le (coefficient s i j * spill) (keep s i) (19 * spill) (omega arith) (omega arith)

  module _ (l : Ledger) (done : IsDone s l) where
    -- what is unshot at the first patches and at the next
    pub unshot_step : (m : ℕ) → m < patches s → sum_below m (unshot_at l) + unshot_at l m ≤ scale * 10000000000000000
    unshot_step m h =
        let part = sum-front (suc m) (patches s) (unshot_at l) (omega arith) in
        let whole = unshot_bound s valid l (balances s l done.balanced) done.limited in
        omega arith

    -- no more spills than was given
    pub spill_direct : spill_of s l ≤ sum l.direct
    spill_direct = let c = conserved s valid l (balances s l done.balanced) in div_ceil-le (unshot s l) scale (sum l.direct) (omega arith) (omega arith)

    -- no more spills than each patch can leave
    pub spill_few : spill_of s l ≤ patches s * (s.threshold - 1 + l.parts)
    spill_few =
        let n = patches s in
        let each = sum-le n (unshot_at l) (λ _. scale * (s.threshold - 1 + l.parts)) (λ j h. let f = done.finished j h in let e = done.balanced.fractions j h in omega arith) in
        let all = sum-all n (scale * (s.threshold - 1 + l.parts)) in
        div_ceil-le (unshot s l) scale (n * (s.threshold - 1 + l.parts)) (omega arith) (omega arith)

    -- the low end and the fraction of a patch
    pub low_bound : (j : ℕ) → j < patches s → low_end l j + div_ceil (get_or l.err j 0) scale ≤ 200000000000000020
    low_bound j h =
        let c = conserved s valid l (balances s l done.balanced) in
        let taken = le-sum (patches s) (λ i. get_or l.taken i 0 * keep s i) j h in
        let left = le-sum (patches s) (unshot_at l) j h in
        let above = keep-above s valid j h in
        let m = mul-le (get_or l.taken j 0) 50000000000 (get_or l.taken j 0) (keep s j) (omega arith) (omega arith) in
        let limited = done.limited in
        let up = (div_ceil_times (get_or l.err j 0) scale (omega arith)).1 in
        within (get_or l.taken j 0) (get_or l.residual j 0) (get_or l.err j 0) (div_ceil (get_or l.err j 0) scale) (omega arith) up
      where
        within : (t r e q : ℕ) → 50000000000 * t + scale * r + e ≤ scale * 10000000000000000 → q * scale < e + scale → t + r + q ≤ 200000000000000020
        within t r e q a b = omega arith

    pub rise_bound : (j : ℕ) → j < patches s → greatest_below (patches s) (rise_from s (spill_of s l) j) ≤ 200000000000000000
    rise_bound j h =
        let few = spill_direct in
        let limited = done.limited in
        greatest-le (patches s) (rise_from s (spill_of s l) j) _ (λ i at. rise-le (spill_of s l) j i (omega arith) h at)

    pub high_bound : (j : ℕ) → j < patches s → high_end s l j ≤ 400000000000000020
    high_bound j h = let low = low_bound j h in let rise = rise_bound j h in omega arith

    pub all_ordered : (ends : List (ℕ × ℕ)) → ends ≡ intervals_of s l → All (λ e. e.0 ≤ e.1) ends
    all_ordered = All-range (λ (e : ℕ × ℕ). e.0 ≤ e.1) (interval_of s l) (patches s) (λ j h. omega arith)

    pub all_bounded : (ends : List (ℕ × ℕ)) → ends ≡ intervals_of s l → All (λ e. e.1 ≤ 400010000000000000) ends
    all_bounded = All-range (λ (e : ℕ × ℕ). e.1 ≤ 400010000000000000) (interval_of s l) (patches s) (λ j h. let high = high_bound j h in omega arith)

    -- how wide an interval can be
    high_width : (j : ℕ) → j < patches s → high_end s l j ≤ low_end l j + l.parts + 19 * spill_of s l
    high_width j h =
        let small = done.balanced.fractions j h in
        let fraction = div_ceil-le (get_or l.err j 0) scale l.parts (omega arith) (omega arith) in
        let rise = greatest-le (patches s) (rise_from s (spill_of s l) j) _ (λ i at. rise_width (spill_of s l) j i h at) in
        omega arith

    pub pair_width : (j : ℕ) → j < patches s → (ends : ℕ × ℕ) → ends ≡ interval_of s l j → ends.1 ≤ ends.0 + l.parts + 19 * spill_of s l
    pair_width j h ends is = subst (λ (e : ℕ × ℕ). e.1 ≤ e.0 + l.parts + 19 * spill_of s l) (sym is) (high_width j h)

    pub all_widths : (ends : List (ℕ × ℕ)) → ends ≡ intervals_of s l → All (λ e. e.1 ≤ e.0 + l.parts + 19 * spill_of s l) ends
    all_widths = All-range (λ (e : ℕ × ℕ). e.1 ≤ e.0 + l.parts + 19 * spill_of s l) (interval_of s l) (patches s) high_width
