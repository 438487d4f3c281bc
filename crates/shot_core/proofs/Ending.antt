-- Settling ends, and each shot leaves what it settles to the same.
use Rattle.std.proofs.Common.{◌≡◌, ℕ, zero, suc, ◌<◌, ◌≤◌, true, false, length, get_or, refl, sym, subst, ◌∙◌, arith, ⊎_elim}
use Rattle.std.proofs.lemmas.Bool.{leb-true, le-leb, lt-leb, cond-true, cond-false, cases_Bool, cond_both, cases_lt}
use Rattle.std.proofs.lemmas.List.{get_or_past}
use Rattle.std.proofs.lemmas.Nat.{mul-le}
use Rattle.flux_system.specs.System.{FluxSystem, patches, keep}
use Rattle.flux_system.specs.Validity.{IsSystem}
use Rattle.flux_system.proofs.Keeping.{keep-above}
use Rattle.flux_ledger.specs.declared.ledger.Ledger.{Ledger}
use Rattle.flux_ledger.proofs.Bounds.{Balances}
use Rattle.shot_core.specs.Shots.{shot}
use Rattle.shot_core.specs.Settling.{brightest_patch, reaches, settled_ledger_within, settled_ledger}
use Rattle.flux_ledger.specs.Balance.{unshot}
use Rattle.shot_core.proofs.Keeping.{shot_balances, unshot_after}

module _ (s : FluxSystem) (valid : IsSystem s) where
  -- the ledger after the next shot
  abbrev next : Ledger → Ledger
  next l = shot s l (brightest_patch l.residual)

  in_system : (l : Ledger) → Balances s l → reaches s l ≡ true → brightest_patch l.residual < patches s
  in_system l b r =
      let enough = leb-true _ _ r in
      let positive = valid.positive in
      let long = b.lengths.of_residual in
      ⊎_elim (λ (h : brightest_patch l.residual < length l.residual). let P : ℕ → Type 0 = λ n. brightest_patch l.residual < n in subst P long h)
      (λ (h : length l.residual ≤ brightest_patch l.residual). let past = get_or_past l.residual (brightest_patch l.residual) 0 h in absurd (omega arith))
      (cases_lt (brightest_patch l.residual) (length l.residual))

  next_balances : (l : Ledger) → Balances s l → reaches s l ≡ true → Balances s (next l)
  next_balances l b r = shot_balances s l (brightest_patch l.residual) (in_system l b r) b

  falls : (l : Ledger) → Balances s l → reaches s l ≡ true → unshot s (next l) < unshot s l
  falls l b r =
      let i : ℕ = brightest_patch l.residual in
      let inside : i < patches s = in_system l b r in
      let after = unshot_after s l i inside b valid in
      let enough = leb-true _ _ r in
      let positive = valid.positive in
      let above = keep-above s valid i inside in
      let m = mul-le 1 1 (get_or l.residual i 0) (keep s i) (omega arith) (omega arith) in
      omega arith

  none_unshot : (l : Ledger) → Balances s l → unshot s l ≡ 0 → reaches s l ≡ true → ⊥
  none_unshot l b z r = let lt = falls l b r in absurd (omega arith)

  -- more shots than there is to shoot change nothing
  enough : (f g : ℕ) (l : Ledger) → Balances s l → unshot s l ≤ f → unshot s l ≤ g → settled_ledger_within f s l ≡ settled_ledger_within g s l
  enough zero zero l b x y = refl
  enough zero (suc g) l b x y = sym (cond_both (reaches s l) (settled_ledger_within g s (next l)) l (λ m. m ≡ l) (λ r. absurd (none_unshot l b (omega arith) r)) (λ _. refl))
  enough (suc f) zero l b x y = cond_both (reaches s l) (settled_ledger_within f s (next l)) l (λ m. m ≡ l) (λ r. absurd (none_unshot l b (omega arith) r)) (λ _. refl)
  enough (suc f) (suc g) l b x y =
      ⊎_elim
      (λ (r : reaches s l ≡ true).
      let lt = falls l b r in
      cond-true (reaches s l) _ l r ∙ (enough f g (next l) (next_balances l b r) (omega arith) (omega arith) ∙ sym (cond-true (reaches s l) _ l r)))
      (λ (off : reaches s l ≡ false). cond-false (reaches s l) _ l off ∙ sym (cond-false (reaches s l) _ l off))
      (cases_Bool (reaches s l))

  pub settling_goes_on : (l : Ledger) → Balances s l → s.threshold ≤ get_or l.residual (brightest_patch l.residual) 0 → settled_ledger s (next l) ≡ settled_ledger s l
  settling_goes_on l b h =
      let r : reaches s l ≡ true = le-leb _ _ h in
      let lt = falls l b r in
      sym (enough (unshot s l) (suc (unshot s l)) l b (omega arith) (omega arith)
      ∙ (cond-true (reaches s l) (settled_ledger_within (unshot s l) s (next l)) l r ∙ enough (unshot s l) (unshot s (next l)) (next l) (next_balances l b r) (omega arith) (omega arith)))

  pub settling_ends : (l : Ledger) → Balances s l → get_or l.residual (brightest_patch l.residual) 0 < s.threshold → settled_ledger s l ≡ l
  settling_ends l b h =
      enough (unshot s l) (suc (unshot s l)) l b (omega arith) (omega arith) ∙ cond-false (reaches s l) (settled_ledger_within (unshot s l) s (next l)) l (lt-leb _ _ h)
