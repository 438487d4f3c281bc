-- What the test of one patch tells, by the numbers that the code compares.
use Rattle.std.proofs.Common.{◌≡◌, ◌≢◌, ℕ, ◌*◌, ◌<◌, ◌≤◌, List, length, get_or, Some, None, sym, subst, ◌∙◌, arith}
use Rattle.std.proofs.lemmas.Bool.{lt-ltb, le-ltb, eq-eqb, ne_eqb, le-leb, lt-leb, and_from, and_left, and_right}
use Rattle.duties.proofs.Orders.{unless_holds, unless_fails}
use Rattle.flux_system.specs.System.{FluxSystem, scale, patches, bound_of_takes}
use Rattle.flux_ledger.specs.declared.ledger.Ledger.{Ledger}
use Rattle.enclosure.specs.Interval.{interval_of}
use Rattle.ledger_audit.specs.declared.findings.Finding.TheVariants.{Size, Direct, Err, Residual, Unbalanced, Wins, Bounds}
use Rattle.ledger_audit.specs.Findings.{size_duty, direct_duty, err_duty, residual_duty, left_side, right_side, balance_duty, wins_duty, bounds_duty}

module _ (s : FluxSystem) (l : Ledger) where
  pub size_fails : (n found : ℕ) → n ≡ patches s → found ≡ length l.direct → found ≢ n → size_duty s l ≡ Some (Size n found)
  size_fails n found n_is found_is ne =
      unless_fails _ _ (ne_eqb _ _ (λ e. ne (found_is ∙ (sym e ∙ sym n_is)))) ∙ (λ k. Some (Size (sym n_is k) (sym found_is k)))

  pub size_holds : (n found : ℕ) → n ≡ patches s → found ≡ length l.direct → found ≡ n → size_duty s l ≡ None
  size_holds n found n_is found_is same = unless_holds _ _ (eq-eqb _ _ (sym n_is ∙ (sym same ∙ found_is)))

  pub direct_fails : (direct : List ℕ) (j left right : ℕ) → left ≡ get_or direct j 0 → right ≡ get_or l.direct j 0 → left ≢ right → direct_duty direct l j ≡ Some (Direct j left right)
  direct_fails direct j left right left_is right_is ne =
      unless_fails _ _ (ne_eqb _ _ (λ e. ne (left_is ∙ (e ∙ sym right_is)))) ∙ (λ k. Some (Direct j (sym left_is k) (sym right_is k)))

  pub direct_holds : (direct : List ℕ) (j left right : ℕ) → left ≡ get_or direct j 0 → right ≡ get_or l.direct j 0 → left ≡ right → direct_duty direct l j ≡ None
  direct_holds direct j left right left_is right_is same = unless_holds _ _ (eq-eqb _ _ (sym left_is ∙ (same ∙ right_is)))

  pub err_fails : (j value limit : ℕ) → value ≡ get_or l.err j 0 → limit ≡ scale * l.parts → limit ≤ value → err_duty l j ≡ Some (Err j value)
  err_fails j value limit value_is limit_is reaches = unless_fails _ _ (le-ltb _ _ (omega arith)) ∙ (λ k. Some (Err j (sym value_is k)))

  pub err_holds : (j value limit : ℕ) → value ≡ get_or l.err j 0 → limit ≡ scale * l.parts → value < limit → err_duty l j ≡ None
  err_holds j value limit value_is limit_is below = unless_holds _ _ (lt-ltb _ _ (omega arith))

  pub residual_fails : (j value limit : ℕ) → value ≡ get_or l.residual j 0 → limit ≡ s.threshold → limit ≤ value → residual_duty s l j ≡ Some (Residual j value)
  residual_fails j value limit value_is limit_is reaches = unless_fails _ _ (le-ltb _ _ (omega arith)) ∙ (λ k. Some (Residual j (sym value_is k)))

  pub residual_holds : (j value limit : ℕ) → value ≡ get_or l.residual j 0 → limit ≡ s.threshold → value < limit → residual_duty s l j ≡ None
  residual_holds j value limit value_is limit_is below = unless_holds _ _ (lt-ltb _ _ (omega arith))

  pub balance_fails : (j left right : ℕ) → left ≡ left_side l j → right ≡ right_side s l j → left ≢ right → balance_duty s l j ≡ Some (Unbalanced j left right)
  balance_fails j left right left_is right_is ne =
      unless_fails _ _ (ne_eqb _ _ (λ e. ne (left_is ∙ (e ∙ sym right_is)))) ∙ (λ k. Some (Unbalanced j (sym left_is k) (sym right_is k)))

  pub balance_holds : (j left right : ℕ) → left ≡ left_side l j → right ≡ right_side s l j → left ≡ right → balance_duty s l j ≡ None
  balance_holds j left right left_is right_is same = unless_holds _ _ (eq-eqb _ _ (sym left_is ∙ (same ∙ right_is)))

  module _ (given : List (ℕ × ℕ)) (j low high : ℕ) (is : (low, high) ≡ interval_of s l j) where
    tells : Some (Bounds j (interval_of s l j).0 (interval_of s l j).1) ≡ Some (Bounds j low high)
    tells = λ k. Some (Bounds j (sym is k).0 (sym is k).1)

    pub low_fails : (get_or given j (0, 0)).0 ≢ low → bounds_duty s l given j ≡ Some (Bounds j low high)
    low_fails ne = unless_fails _ _ (and_left _ _ (ne_eqb _ _ (λ e. ne (e ∙ (λ k. (sym is k).0))))) ∙ tells

    pub high_fails : (get_or given j (0, 0)).1 ≢ high → bounds_duty s l given j ≡ Some (Bounds j low high)
    high_fails ne = unless_fails _ _ (and_right _ _ (ne_eqb _ _ (λ e. ne (e ∙ (λ k. (sym is k).1))))) ∙ tells

    pub pair_holds : (get_or given j (0, 0)).0 ≡ low → (get_or given j (0, 0)).1 ≡ high → bounds_duty s l given j ≡ None
    pair_holds low_is high_is = unless_holds _ _ (and_from _ _ (eq-eqb _ _ (low_is ∙ (λ k. (is k).0))) (eq-eqb _ _ (high_is ∙ (λ k. (is k).1))))

module _ (s : FluxSystem) (direct : List ℕ) (wins limit : ℕ) (is : limit ≡ bound_of_takes s direct) where
  pub wins_fail : limit < wins → wins_duty s direct wins ≡ Some (Wins wins limit)
  wins_fail above = unless_fails _ _ (lt-leb _ _ (subst (λ (bound : ℕ). bound < wins) is above)) ∙ (λ k. Some (Wins wins (sym is k)))

  pub wins_hold : wins ≤ limit → wins_duty s direct wins ≡ None
  wins_hold within = unless_holds _ _ (le-leb _ _ (subst (λ (bound : ℕ). wins ≤ bound) is within))
