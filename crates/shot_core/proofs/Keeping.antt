-- A shot keeps a ledger balanced and paid, and lowers what is unshot.
use Rattle.std.proofs.Common.{◌≡◌, ◌≢◌, ℕ, ◌+◌, ◌*◌, ◌/◌, ◌%◌, ◌<◌, ◌≤◌, List, length, get_or, set, refl, sym, ap, subst, ◌∙◌, arith, length-set, get_or-set_other}
use Rattle.std.specs.List.{sum}
use Rattle.std.proofs.lemmas.Nat.{mul-le}
use Rattle.flux_system.specs.Sums.{sum_below}
use Rattle.flux_system.specs.System.{FluxSystem, scale, patches, share, coefficient, passed_part, keep}
use Rattle.flux_system.specs.Validity.{IsSystem}
use Rattle.flux_system.proofs.Sums.{sum-same, sum-add, sum-scale, sum-change, sum-places}
use Rattle.flux_system.proofs.Dense.{range-same}
use Rattle.flux_system.proofs.Keeping.{keep-above}
use Rattle.flux_ledger.specs.declared.ledger.Ledger.{Ledger}
use Rattle.flux_ledger.specs.Balance.{IsBalanced, IsPaid}
use Rattle.flux_ledger.proofs.Bounds.{Balances, balances, balanced, taken_bound, residual_bound, wins_bound}
use Rattle.shot_core.specs.Shots.{shot, parts_after, amounts_after, fractions_after}
use Rattle.flux_ledger.specs.Balance.{unshot}
use Rattle.shot_core.proofs.Lists.{list-at, list-length, set-zero}
use Rattle.shot_core.proofs.Taking.{taken_here, taken_moved, taken_sum, passed_more}

module _ (s : FluxSystem) (l : Ledger) (i : ℕ) (inside : i < patches s) (b : Balances s l) where
  -- what the shot takes
  abbrev taking : ℕ
  taking = get_or l.residual i 0

  residual_after : (j : ℕ) → j < patches s → get_or (shot s l i).residual j 0 ≡ get_or (set l.residual i 0) j 0 + parts_after s i taking l.err j / scale
  residual_after j h = list-at (λ k. get_or (set l.residual i 0) k 0 + parts_after s i taking l.err k / scale) (patches s) j h

  err_after : (j : ℕ) → j < patches s → get_or (shot s l i).err j 0 ≡ parts_after s i taking l.err j % scale
  err_after j h = list-at (λ k. parts_after s i taking l.err k % scale) (patches s) j h

  -- a patch that gets no share keeps its residual, where its fraction is below a nanolumen
  pub residual_stays : (j : ℕ) → j < patches s → j ≢ i → share s i j ≡ 0 → get_or l.err j 0 < scale → get_or (shot s l i).residual j 0 ≡ get_or l.residual j 0
  unfolding coefficient
  residual_stays j h ne none small =
      let after = residual_after j h in
      let stays = get_or-set_other l.residual i j 0 0 ne in
      let nothing : taking * (get_or s.reflectance i 0 * share s i j) ≡ 0 = ap (λ (x : ℕ). taking * (get_or s.reflectance i 0 * x)) none ∙ omega arith in
      omega arith

  taken_fits_in : i < length l.taken
  taken_fits_in = let long = b.lengths.of_taken in omega arith

  pub shot_balances : Balances s (shot s l i)
  shot_balances = record {
    lengths = record {
      of_direct = b.lengths.of_direct;
      of_taken = length-set l.taken i (get_or l.taken i 0 + taking) ∙ b.lengths.of_taken;
      of_residual = list-length _ (patches s);
      of_err = list-length _ (patches s);
    };
    balance = λ j h.
        let old = b.balance j h in
        let left = residual_after j h in
        let rest = err_after j h in
        let both = taken_moved l.taken i taking taken_fits_in l.residual refl j in
        let on = passed_more l.taken i taking taken_fits_in s inside j in
        omega arith;
    fractions = λ j h.
        let rest = err_after j h in
        let some = b.fractions j h in
        let m = mul-le scale 1 scale l.parts (omega arith) (omega arith) in
        omega arith;
  }

  pub shot_paid : s.threshold ≤ taking → IsPaid s l → IsPaid s (shot s l i)
  shot_paid enough paid =
      let change = taken_sum l.taken i taking taken_fits_in s inside in
      let before = sum-places l.taken ∙ ap (λ (n : ℕ). sum_below n (λ k. get_or l.taken k 0)) b.lengths.of_taken in
      let after = sum-places (shot s l i).taken ∙ ap (λ (n : ℕ). sum_below n (λ k. get_or (shot s l i).taken k 0)) shot_balances.lengths.of_taken in
      omega arith

  -- a shot of t lowers what is unshot by t times what the patch keeps
  pub unshot_after : IsSystem s → unshot s (shot s l i) + taking * keep s i ≡ unshot s l
  unshot_after valid =
      let n = patches s in
      let after : unshot s (shot s l i) ≡ sum_below n (λ j. (scale * get_or (set l.residual i 0) j 0 + get_or l.err j 0) + taking * coefficient s i j) =
      sum-same n _ _ (λ j h. let left = residual_after j h in let rest = err_after j h in omega arith) in
      let parts = sum-add n (λ j. scale * get_or (set l.residual i 0) j 0 + get_or l.err j 0) (λ j. taking * coefficient s i j) in
      let row = sum-scale n taking (coefficient s i) in
      let none = set-zero l.residual i in
      let change = sum-change n (λ j. scale * get_or l.residual j 0 + get_or l.err j 0) (λ j. scale * get_or (set l.residual i 0) j 0 + get_or l.err j 0) i inside
      (λ j ne. ap (λ (y : ℕ). scale * y + get_or l.err j 0) (get_or-set_other l.residual i j 0 0 ne)) in
      let above = keep-above s valid i inside in
      let whole : passed_part s i + keep s i ≡ scale = omega arith in
      let m = ap (λ (y : ℕ). taking * y) whole in
      omega arith

-- the same of a balanced and paid ledger, and what fits in it
module _ (s : FluxSystem) (valid : IsSystem s) (l : Ledger) (b : IsBalanced s l) (paid : IsPaid s l) (limit : sum l.direct ≤ 10000000000000000) (i : ℕ) (inside : i < patches s) (enough : s.threshold ≤ get_or l.residual i 0) where
  shot_stays_paid : IsPaid s (shot s l i)
  shot_stays_paid = shot_paid s l i inside (balances s l b) enough paid

  shot_stays_balanced : IsBalanced s (shot s l i)
  shot_stays_balanced = balanced s valid (shot s l i) (shot_balances s l i inside (balances s l b)) shot_stays_paid

  unshot_falls : unshot s (shot s l i) < unshot s l
  unshot_falls =
      let after = unshot_after s l i inside (balances s l b) valid in
      let positive = valid.positive in
      let above = keep-above s valid i inside in
      let m = mul-le 1 1 (get_or l.residual i 0) (keep s i) (omega arith) (omega arith) in
      omega arith

  pub taking_fits : get_or l.residual i 0 ≤ 10000000000000000
  taking_fits = residual_bound s valid l (balances s l b) limit i inside

  pub residual_fits : (j : ℕ) → j < patches s → get_or (shot s l i).residual j 0 ≤ 10000000000000000
  residual_fits j h = residual_bound s valid (shot s l i) (balances s (shot s l i) shot_stays_balanced) limit j h

  pub taken_fits : get_or l.taken i 0 + get_or l.residual i 0 ≤ 200000000000000000
  taken_fits =
      let here = taken_here l.taken i (get_or l.residual i 0) (taken_fits_in s l i inside (balances s l b)) in
      let bound = taken_bound s valid (shot s l i) (balances s (shot s l i) shot_stays_balanced) limit i inside in
      omega arith

  pub wins_fit : l.wins + 1 ≤ 200000000000000000
  wins_fit = wins_bound s valid (shot s l i) shot_stays_balanced limit

  -- once the flux is taken, what is left and what is passed on fits
  pub parts_fit : (left : List ℕ) (t : ℕ) → left ≡ set l.residual i 0 → t ≡ get_or l.residual i 0 → (j : ℕ) → j < patches s → scale * get_or left j 0 + parts_after s i t l.err j < scale * 18446744073709551616
  parts_fit left t left_is t_is j h =
      let after = residual_after s l i inside (balances s l b) j h in
      let fits = residual_fits j h in
      let same : scale * get_or left j 0 + parts_after s i t l.err j ≡ scale * get_or (set l.residual i 0) j 0 + parts_after s i (get_or l.residual i 0) l.err j = λ k. scale * get_or (left_is k) j 0 + parts_after s i (t_is k) l.err j in
      omega arith

-- a ledger that a shot left, where some patch has flux to shoot
module _ (s : FluxSystem) (valid : IsSystem s) (l : Ledger) (b : IsBalanced s l) (paid : IsPaid s l) (limit : sum l.direct ≤ 10000000000000000) (i flux : ℕ) (is : flux ≡ get_or l.residual i 0) (listed : i < length l.residual) (enough : s.threshold ≤ flux) (after : Ledger) (shot_is : after ≡ shot s l i) where
  in_system : i < patches s
  in_system = let long = b.lengths.of_residual in omega arith

  pub after_balanced : IsBalanced s after
  after_balanced = subst (λ (x : Ledger). IsBalanced s x) (sym shot_is) (shot_stays_balanced s valid l b paid limit i in_system (omega arith))

  pub after_paid : IsPaid s after
  after_paid = subst (λ (x : Ledger). IsPaid s x) (sym shot_is) (shot_stays_paid s valid l b paid limit i in_system (omega arith))

  pub after_falls : unshot s after < unshot s l
  after_falls = subst (λ (x : Ledger). unshot s x < unshot s l) (sym shot_is) (unshot_falls s valid l b paid limit i in_system (omega arith))

-- a number of parts that stays has the same whole nanolumens, however many of them are in the fraction
alike_whole : (a x r y : ℕ) → scale * a + x ≡ scale * r + y → a + x / scale ≡ r + y / scale
alike_whole a x r y is = omega arith

alike_rest : (a x r y : ℕ) → scale * a + x ≡ scale * r + y → x % scale ≡ y % scale
alike_rest a x r y is = omega arith

-- where each patch comes to as many parts, what a shot leaves is the same
module _ (s : FluxSystem) (i t u : ℕ) (amounts rest left err : List ℕ) (same : (j : ℕ) → j < patches s → scale * get_or amounts j 0 + parts_after s i t rest j ≡ scale * get_or left j 0 + parts_after s i u err j) where
  pub alike_amounts : amounts_after s i t amounts rest ≡ amounts_after s i u left err
  alike_amounts = range-same (patches s) _ _ (λ j h. alike_whole (get_or amounts j 0) (parts_after s i t rest j) (get_or left j 0) (parts_after s i u err j) (same j h))

  pub alike_fractions : fractions_after s i t rest ≡ fractions_after s i u err
  alike_fractions = range-same (patches s) _ _ (λ j h. alike_rest (get_or amounts j 0) (parts_after s i t rest j) (get_or left j 0) (parts_after s i u err j) (same j h))
