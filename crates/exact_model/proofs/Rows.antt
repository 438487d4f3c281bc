-- Equations k * x j = s j + the sum of c i j * x i over the first n numbers, where each row total of c is below k.
use Rattle.std.proofs.Common.{◌≡◌, ℕ, suc, ◌+◌, ◌-◌, ◌*◌, ◌<◌, ◌≤◌, refl, sym, ap, ◌∙◌, arith, ℤ, pos, negsuc, ◌+ℤ◌, ◌*ℤ◌, ⊎_elim}
use Rattle.std.proofs.lemmas.Int.{ints}
use Rattle.std.proofs.lemmas.Nat.{mul-le}
use Rattle.std.proofs.lemmas.Bool.{cases_lt}
use borrow.Author.Differences.{up, down}
use Rattle.flux_system.specs.Sums.{sum_below}
use Rattle.flux_system.proofs.Sums.{sum-zero, sum-same, sum-add, sum-scale, sum-swap, sum-le, le-sum}
use Rattle.exact_model.specs.Solution.{sum_signed}
use Rattle.exact_model.proofs.Signed.{sum-parts_by}

module _ (n : ℕ) (c : ℕ → ℕ → ℕ) where
  abbrev pub row : ℕ → ℕ
  row i = sum_below n (λ j. c i j)

  -- what all pass to all, by those that pass it
  pub passed_on : (y : ℕ → ℕ) → sum_below n (λ j. sum_below n (λ i. c i j * y i)) ≡ sum_below n (λ i. y i * row i)
  passed_on y =
      sum-swap n n (λ j i. c i j * y i)
      ∙ sum-same n _ _ (λ i h. sum-same n (λ j. c i j * y i) (λ j. y i * c i j) (λ j l. omega arith) ∙ sum-scale n (y i) (λ j. c i j))

  module _ (k : ℕ) (rows : (i : ℕ) → i < n → row i < k) where
    -- what is passed on and what is kept
    pub passed_or_kept : (y : ℕ → ℕ) → sum_below n (λ i. y i * row i) + sum_below n (λ i. y i * (k - row i)) ≡ k * sum_below n y
    passed_or_kept y =
        sym (sum-add n (λ i. y i * row i) (λ i. y i * (k - row i)))
        ∙ (sum-same n _ _ (λ i h. let lt = rows i h in let e : row i + (k - row i) ≡ k = omega arith in let m = ap (λ (t : ℕ). y i * t) e in omega arith) ∙ sum-scale n k y)

    -- numbers that are at most what the others pass are 0
    pub vanishes : (y : ℕ → ℕ) → ((j : ℕ) → j < n → k * y j ≤ sum_below n (λ i. c i j * y i)) → (j : ℕ) → j < n → y j ≡ 0
    vanishes y small j h =
        let all = sum-le n (λ j. k * y j) (λ j. sum_below n (λ i. c i j * y i)) small in
        let scaled = sum-scale n k y in
        let turned = passed_on y in
        let both = passed_or_kept y in
        let one = le-sum n (λ i. y i * (k - row i)) j h in
        let lt = rows j h in
        let e : (k - row j) ≡ suc (k - row j - 1) = omega arith in
        let m = ap (λ (t : ℕ). y j * t) e in
        omega arith

    -- a solution of the naturals: what it keeps is its source
    pub kept_is_source : (s y : ℕ → ℕ) → ((j : ℕ) → j < n → k * y j ≡ s j + sum_below n (λ i. c i j * y i)) → sum_below n (λ i. y i * (k - row i)) ≡ sum_below n s
    kept_is_source s y solves =
        let all = sum-same n (λ j. k * y j) (λ j. s j + sum_below n (λ i. c i j * y i)) solves in
        let scaled = sum-scale n k y in
        let parts = sum-add n s (λ j. sum_below n (λ i. c i j * y i)) in
        let turned = passed_on y in
        let both = passed_or_kept y in
        omega arith

    module _ (s : ℕ → ℕ) (x : ℕ → ℤ) (solves : (j : ℕ) → j < n → pos k *ℤ x j ≡ pos (s j) +ℤ sum_signed n (λ i. pos (c i j) *ℤ x i)) where
      -- the equation without signs
      pub unsigned : (j : ℕ) → j < n → k * up (x j) + sum_below n (λ i. c i j * down (x i)) ≡ s j + k * down (x j) + sum_below n (λ i. c i j * up (x i))
      unsigned j h =
          let e = solves j h in
          let parts = sum-parts_by n (λ i. c i j) x in
          omega (arith, ints)

      owed : (j : ℕ) → j < n → k * down (x j) ≤ sum_below n (λ i. c i j * down (x i))
      owed j h = let u = unsigned j h in owed_by (x j) refl u
        where
          owed_by : (z : ℤ) → x j ≡ z → k * up (x j) + sum_below n (λ i. c i j * down (x i)) ≡ s j + k * down (x j) + sum_below n (λ i. c i j * up (x i)) → k * down (x j) ≤ sum_below n (λ i. c i j * down (x i))
          owed_by (pos m) e u = let d = ap down e in let m = ap (λ (t : ℕ). k * t) d in omega arith
          owed_by (negsuc m) e u = let d = ap up e in let m = ap (λ (t : ℕ). k * t) d in omega arith

      -- it is nowhere negative
      pub no_debt : (j : ℕ) → j < n → down (x j) ≡ 0
      no_debt = vanishes (λ j. down (x j)) owed

      pub natural : (j : ℕ) → j < n → k * up (x j) ≡ s j + sum_below n (λ i. c i j * up (x i))
      natural j h =
          let u = unsigned j h in
          let none = no_debt j h in
          let m = ap (λ (t : ℕ). k * t) none in
          let nothing : sum_below n (λ i. c i j * down (x i)) ≡ 0 = sum-same n _ (λ _. 0) (λ i l. let z = ap (λ (t : ℕ). c i j * t) (no_debt i l) in omega arith) ∙ sum-zero n in
          omega arith

    -- two solutions of one source, each over its denominator
    module _ (s : ℕ → ℕ) where
      at_most : (a b : ℕ → ℕ) → ((j : ℕ) → j < n → k * a j ≡ s j + sum_below n (λ i. c i j * a i)) → ((j : ℕ) → j < n → k * b j ≡ s j + sum_below n (λ i. c i j * b i)) → (j : ℕ) → j < n → a j ≤ b j
      at_most a b one two j h = let none = vanishes (λ i. a i - b i) excess j h in omega arith
        where
          split : (i j : ℕ) → c i j * a i ≤ c i j * b i + c i j * (a i - b i)
          split i j = let e = mul-le (c i j) (a i) (c i j) (b i + (a i - b i)) (omega arith) (omega arith) in omega arith

          excess : (j : ℕ) → j < n → k * (a j - b j) ≤ sum_below n (λ i. c i j * (a i - b i))
          excess j h =
              let e = one j h in
              let f = two j h in
              let parts = sum-add n (λ i. c i j * b i) (λ i. c i j * (a i - b i)) in
              let le = sum-le n (λ i. c i j * a i) (λ i. c i j * b i + c i j * (a i - b i)) (λ i l. split i j) in
              ⊎_elim
              (λ less. let z : a j - b j ≡ 0 = omega arith in let m = ap (λ (t : ℕ). k * t) z in omega arith)
              (λ more. let z : (a j - b j) + b j ≡ a j = omega arith in let m = ap (λ (t : ℕ). k * t) z in omega arith)
              (cases_lt (a j) (b j))

      pub same_solution : (a b : ℕ → ℕ) → ((j : ℕ) → j < n → k * a j ≡ s j + sum_below n (λ i. c i j * a i)) → ((j : ℕ) → j < n → k * b j ≡ s j + sum_below n (λ i. c i j * b i)) → (j : ℕ) → j < n → a j ≡ b j
      same_solution a b one two j h = let le = at_most a b one two j h in let ge = at_most b a two one j h in omega arith

  -- a solution times a number
  pub scaled : (k q : ℕ) (s x : ℕ → ℕ) → ((j : ℕ) → j < n → k * x j ≡ s j + sum_below n (λ i. c i j * x i)) → (j : ℕ) → j < n → k * (x j * q) ≡ q * s j + sum_below n (λ i. c i j * (x i * q))
  scaled k q s x solves j h =
      let e = ap (λ (t : ℕ). q * t) (solves j h) in
      let inside : sum_below n (λ i. c i j * (x i * q)) ≡ sum_below n (λ i. q * (c i j * x i)) = sum-same n _ _ (λ i l. omega arith) in
      let out = sum-scale n q (λ i. c i j * x i) in
      omega arith
