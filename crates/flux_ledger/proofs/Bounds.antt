-- A ledger whose accounts balance conserves the direct flux, so its numbers are bounded; and where it is paid, its wins are few.
use Rattle.std.proofs.Common.{◌≡◌, ℕ, ◌+◌, ◌*◌, ◌<◌, ◌≤◌, get_or, ap, ◌∙◌, arith}
use Rattle.std.specs.List.{sum}
use Rattle.std.proofs.lemmas.Nat.{mul-le}
use Rattle.flux_system.specs.Sums.{sum_below}
use Rattle.flux_system.specs.System.{FluxSystem, scale, patches, coefficient, passed_part, keep, least_keep}
use Rattle.flux_system.specs.Validity.{IsSystem}
use Rattle.flux_system.proofs.Sums.{sum-same, sum-add, sum-scale, sum-swap, sum-le, le-sum, sum-places}
use Rattle.flux_system.proofs.Keeping.{keep-above, least_keep-above, least_keep-le}
use Rattle.flux_ledger.specs.declared.ledger.Ledger.{Ledger}
use Rattle.flux_ledger.specs.Balance.{HasPatches, passed_to, unshot_at, IsBalanced, IsPaid}

-- a balanced ledger, but for its wins
pub record Balances (s : FluxSystem) (l : Ledger) : Type 0 where
  pub lengths : HasPatches (patches s) l
  pub balance : (j : ℕ) → j < patches s → scale * (get_or l.taken j 0 + get_or l.residual j 0) + get_or l.err j 0 ≡ scale * get_or l.direct j 0 + passed_to s l.taken j
  pub fractions : (j : ℕ) → j < patches s → get_or l.err j 0 < scale * l.parts

pub balances : (s : FluxSystem) (l : Ledger) → IsBalanced s l → Balances s l
balances s l b = record { lengths = b.lengths; balance = b.balance; fractions = b.fractions }

module _ (s : FluxSystem) (valid : IsSystem s) (l : Ledger) (b : Balances s l) where
  -- the direct flux, patch by patch
  direct_sum : sum l.direct ≡ sum_below (patches s) (λ j. get_or l.direct j 0)
  direct_sum = sum-places l.direct ∙ ap (λ (n : ℕ). sum_below n (λ j. get_or l.direct j 0)) b.lengths.of_direct

  taken_sum : sum l.taken ≡ sum_below (patches s) (λ i. get_or l.taken i 0)
  taken_sum = sum-places l.taken ∙ ap (λ (n : ℕ). sum_below n (λ i. get_or l.taken i 0)) b.lengths.of_taken

  -- what was taken and kept, and what is unshot, is the direct flux
  pub conserved : sum_below (patches s) (λ i. get_or l.taken i 0 * keep s i) + sum_below (patches s) (unshot_at l) ≡ scale * sum l.direct
  conserved =
      let n = patches s in
      let t : ℕ → ℕ = λ i. get_or l.taken i 0 in
      let all : sum_below n (λ j. scale * t j + unshot_at l j) ≡ sum_below n (λ j. scale * get_or l.direct j 0 + passed_to s l.taken j) =
      sum-same n _ _ (λ j h. let e = b.balance j h in omega arith) in
      let left = sum-add n (λ j. scale * t j) (unshot_at l) in
      let left_scaled = sum-scale n scale t in
      let right = sum-add n (λ j. scale * get_or l.direct j 0) (passed_to s l.taken) in
      let right_scaled = sum-scale n scale (λ j. get_or l.direct j 0) in
      let turned = sum-swap n n (λ i j. t i * coefficient s i j) in
      let rows : sum_below n (λ i. sum_below n (λ j. t i * coefficient s i j)) ≡ sum_below n (λ i. t i * passed_part s i) = sum-same n _ _ (λ i h. sum-scale n (t i) (coefficient s i)) in
      let both = sum-add n (λ i. t i * passed_part s i) (λ i. t i * keep s i) in
      let whole : sum_below n (λ i. t i * passed_part s i + t i * keep s i) ≡ sum_below n (λ i. scale * t i) =
      sum-same n _ _ (λ i h. let above = keep-above s valid i h in let is : passed_part s i + keep s i ≡ scale = omega arith in let m = ap (λ (y : ℕ). t i * y) is in omega arith) in
      let direct = direct_sum in
      omega arith

  -- the wins of a paid ledger are within the bound of takes
  pub few_wins : IsPaid s l → (l.wins * s.threshold) * least_keep s ≤ scale * sum l.direct
  few_wins paid =
      let n = patches s in
      let least : ℕ = least_keep s in
      let c = conserved in
      let total = ap (λ (x : ℕ). least * x) taken_sum in
      let scaled = sum-scale n least (λ i. get_or l.taken i 0) in
      let le = sum-le n (λ i. least * get_or l.taken i 0) (λ i. get_or l.taken i 0 * keep s i)
      (λ i h. let at = least_keep-le s i h in let m = mul-le (get_or l.taken i 0) least (get_or l.taken i 0) (keep s i) (omega arith) at in omega arith) in
      let m = mul-le (l.wins * s.threshold) least (sum l.taken) least paid (omega arith) in
      omega arith

  pub balanced : IsPaid s l → IsBalanced s l
  balanced paid = record { lengths = b.lengths; balance = b.balance; fractions = b.fractions; few_wins = few_wins paid }

  module _ (limit : sum l.direct ≤ 10000000000000000) where
    -- what was taken of a patch, what is left there and its fraction
    account_bound : (i : ℕ) → i < patches s → 50000000000 * get_or l.taken i 0 + unshot_at l i ≤ scale * 10000000000000000
    account_bound i h =
        let c = conserved in
        let taken = le-sum (patches s) (λ k. get_or l.taken k 0 * keep s k) i h in
        let unshot = le-sum (patches s) (unshot_at l) i h in
        let above = keep-above s valid i h in
        let m = mul-le (get_or l.taken i 0) 50000000000 (get_or l.taken i 0) (keep s i) (omega arith) (omega arith) in
        omega arith

    pub taken_bound : (i : ℕ) → i < patches s → get_or l.taken i 0 ≤ 200000000000000000
    taken_bound i h = let a = account_bound i h in omega arith

    pub residual_bound : (i : ℕ) → i < patches s → get_or l.residual i 0 ≤ 10000000000000000
    residual_bound i h = let a = account_bound i h in omega arith

    pub unshot_bound : sum_below (patches s) (unshot_at l) ≤ scale * 10000000000000000
    unshot_bound = let c = conserved in omega arith

-- the wins of a balanced ledger
pub wins_bound : (s : FluxSystem) → IsSystem s → (l : Ledger) → IsBalanced s l → sum l.direct ≤ 10000000000000000 → l.wins ≤ 200000000000000000
wins_bound s valid l b limit =
    let few = b.few_wins in
    let above = least_keep-above s valid in
    let positive = valid.positive in
    let m = mul-le l.wins 1 l.wins s.threshold (omega arith) positive in
    let k = mul-le (l.wins * 1) 50000000000 (l.wins * s.threshold) (least_keep s) m (omega arith) in
    omega arith
