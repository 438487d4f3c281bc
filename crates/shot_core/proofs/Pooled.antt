-- All accounts together, with what is in hand beside what is left, are a balanced and paid ledger: so no flux is lost, wins are few,
-- and every sum is bounded.
use Rattle.std.proofs.Common.{◌≡◌, ℕ, ◌+◌, ◌*◌, ◌<◌, ◌≤◌, List, length, get_or, refl, sym, ap, ◌∙◌, arith}
use Rattle.std.specs.List.{sum, sum_by}
use Rattle.std.proofs.lemmas.List.Sums.{get_or-le-sum_by}
use Rattle.flux_system.specs.Sums.{sum_below}
use Rattle.flux_system.specs.System.{FluxSystem, scale, patches, coefficient, keep}
use Rattle.flux_system.proofs.Sums.{sum-same, sum-add, sum-scale, sum_by-sum, sum-places}
use Rattle.flux_ledger.specs.declared.ledger.Ledger.{Ledger}
use Rattle.flux_ledger.specs.Balance.{IsPaid, passed_to, unshot_at}
use Rattle.flux_ledger.proofs.Bounds.{Balances, conserved, few_wins, balanced, taken_bound, residual_bound, wins_bound}
use Rattle.shot_core.specs.declared.roles.Role.{Role}
use Rattle.shot_core.specs.declared.roles.Role.TheVariants.{Desk, Actor, Retired}
use Rattle.shot_core.specs.declared.views.View.{View}
use Rattle.shot_core.specs.Shots.{at_each_patch}
use Rattle.shot_core.specs.Views.{spent_view, taken_at, given_at, hand_at, err_at, wins_of, total, is_desk, is_retired, one_for, number_of}
use Rattle.shot_core.specs.Accounts.{AccountsHold, parts_due}
use Rattle.shot_core.specs.Conserved.{IsConserved, WinsAreBounded, WordsAreBounded}
use Rattle.shot_core.proofs.Lists.{list-at, list-length}
use Rattle.shot_core.proofs.Totals.{total-same, total-le, total-add, total-times, total-parts}

abbrev pub parts_in : View → ℕ
parts_in v = v.parts

desk-le : (retired : ℕ) (v : View) → v.parts ≡ parts_due retired v.role → one_for is_desk v ≤ parts_in v
desk-le retired v due = cases v.role refl
  where
    cases : (r : Role) → v.role ≡ r → one_for is_desk v ≤ parts_in v
    cases Desk is = let due_is = ap (parts_due retired) is in let one = ap (λ (r : Role). one_for is_desk (record v { role = r })) is in omega arith
    cases Actor is = let none = ap (λ (r : Role). one_for is_desk (record v { role = r })) is in omega arith
    cases Retired is = let none = ap (λ (r : Role). one_for is_desk (record v { role = r })) is in omega arith

module _ (s : FluxSystem) (flux residual : List ℕ) (all : List View) (h : AccountsHold s flux residual all) where
  -- all accounts as one ledger
  abbrev pub pooled : Ledger
  pooled = record {
    direct = flux;
    taken = at_each_patch s (λ j. total (taken_at j) all);
    residual = at_each_patch s (λ j. get_or residual j 0 + total (hand_at j) all);
    err = at_each_patch s (λ j. total (err_at j) all);
    parts = total parts_in all;
    wins = total wins_of all;
  }

  pub taken_pooled : (j : ℕ) → j < patches s → get_or pooled.taken j 0 ≡ total (taken_at j) all
  taken_pooled j l = list-at (λ i. total (taken_at i) all) (patches s) j l

  pub residual_pooled : (j : ℕ) → j < patches s → get_or pooled.residual j 0 ≡ get_or residual j 0 + total (hand_at j) all
  residual_pooled j l = list-at (λ i. get_or residual i 0 + total (hand_at i) all) (patches s) j l

  pub err_pooled : (j : ℕ) → j < patches s → get_or pooled.err j 0 ≡ total (err_at j) all
  err_pooled j l = list-at (λ i. total (err_at i) all) (patches s) j l

  -- what all accounts took was passed on
  booked_pooled : (j : ℕ) → j < patches s → scale * (total (given_at j) all + total (hand_at j) all) + total (err_at j) all ≡ passed_to s pooled.taken j
  booked_pooled j l =
      let n = patches s in
      let parts = total-parts (given_at j) (hand_at j) (err_at j) all in
      let each = total-same (λ v. scale * (given_at j v + hand_at j v) + err_at j v) (λ v. passed_to s v.taken j) all (λ k d inside. h.views k d inside j l) in
      let turned = sum_by-sum n (λ (v : View) (i : ℕ). taken_at i v * coefficient s i j) all in
      let columns = sum-same n (λ i. sum_by (λ (v : View). taken_at i v * coefficient s i j) all) (λ i. get_or pooled.taken i 0 * coefficient s i j)
      (λ i inside. total-times (taken_at i) (coefficient s i j) all ∙ ap (λ (x : ℕ). x * coefficient s i j) (sym (taken_pooled i inside))) in
      omega arith

  some_part : 1 ≤ pooled.parts
  some_part = let one = h.one_desk in let le = total-le (one_for is_desk) parts_in all (λ k d inside. desk-le (number_of is_retired all) (get_or all k d) (h.parts k d inside)) in omega arith

  pub balances_pooled : Balances s pooled
  balances_pooled = record {
    lengths = record { of_direct = h.of_direct; of_taken = list-length _ (patches s); of_residual = list-length _ (patches s); of_err = list-length _ (patches s) };
    balance = λ j l.
        let taken = taken_pooled j l in
        let left = residual_pooled j l in
        let err = err_pooled j l in
        let words = h.words j l in
        let booked = booked_pooled j l in
        omega arith;
    fractions = λ j l.
        let err = err_pooled j l in
        let some = some_part in
        let le = total-le (λ v. err_at j v + v.parts) (λ v. v.parts * scale) all (λ k d inside. let each = h.fractions k d inside j l in omega arith) in
        let sums = total-add (err_at j) parts_in all in
        let scaled = total-times parts_in scale all in
        omega arith;
  }

  pub paid_pooled : IsPaid s pooled
  paid_pooled =
      let n = patches s in
      let le = total-le (λ v. v.wins * s.threshold) (λ v. sum_below n (λ i. taken_at i v)) all h.wins in
      let times = total-times wins_of s.threshold all in
      let turned = sum_by-sum n (λ (v : View) (i : ℕ). taken_at i v) all in
      let columns = sum-same n (λ i. total (taken_at i) all) (λ i. get_or pooled.taken i 0) (λ i inside. sym (taken_pooled i inside)) in
      let places = sum-places pooled.taken ∙ ap (λ (m : ℕ). sum_below m (λ i. get_or pooled.taken i 0)) balances_pooled.lengths.of_taken in
      omega arith

  -- what is not shot yet
  unshot_pooled : sum_below (patches s) (unshot_at pooled) ≡ sum_below (patches s) (λ j. total (err_at j) all) + scale * sum residual + scale * sum_below (patches s) (λ j. total (hand_at j) all)
  unshot_pooled =
      let n = patches s in
      let word : ℕ → ℕ = λ j. get_or residual j 0 in
      let hand : ℕ → ℕ = λ j. total (hand_at j) all in
      let err : ℕ → ℕ = λ j. total (err_at j) all in
      let each = sum-same n (unshot_at pooled) (λ j. err j + scale * (word j + hand j)) (λ j l. let left = residual_pooled j l in let rest = err_pooled j l in omega arith) in
      let apart = sum-add n err (λ j. scale * (word j + hand j)) in
      let scaled = sum-scale n scale (λ j. word j + hand j) in
      let two = sum-add n word hand in
      let places = sum-places residual ∙ ap (λ (m : ℕ). sum_below m word) h.of_words in
      omega arith

  pub is_conserved : IsConserved s flux residual all
  is_conserved =
      let n = patches s in
      let kept = sum-same n (λ i. get_or pooled.taken i 0 * keep s i) (λ i. total (taken_at i) all * keep s i) (λ i l. ap (λ (x : ℕ). x * keep s i) (taken_pooled i l)) in
      let left = unshot_pooled in
      let whole = conserved s h.system pooled balances_pooled in
      omega arith

  pub wins_are_bounded : WinsAreBounded s flux all
  wins_are_bounded = few_wins s h.system pooled balances_pooled paid_pooled

  pub words_are_bounded : WordsAreBounded s residual all
  words_are_bounded j l = let bound = residual_bound s h.system pooled balances_pooled h.limit j l in let left = residual_pooled j l in omega arith

  -- the sums of one account
  module _ (k : ℕ) (inside : k < length all) where
    abbrev view : View
    view = get_or all k spent_view

    pub taken_fits : (i : ℕ) → i < patches s → taken_at i view ≤ 200000000000000000
    taken_fits i l =
        let bound = taken_bound s h.system pooled balances_pooled h.limit i l in
        let is = taken_pooled i l in
        let one = get_or-le-sum_by (taken_at i) all k spent_view inside in
        omega arith

    pub given_fits : (j : ℕ) → j < patches s → given_at j view ≤ 210000000000000000
    given_fits j l =
        let bound = taken_bound s h.system pooled balances_pooled h.limit j l in
        let is = taken_pooled j l in
        let words = h.words j l in
        let word = words_are_bounded j l in
        let one = get_or-le-sum_by (given_at j) all k spent_view inside in
        omega arith

    pub hand_fits : (j : ℕ) → j < patches s → get_or residual j 0 + hand_at j view ≤ 10000000000000000
    hand_fits j l = let word = words_are_bounded j l in let one = get_or-le-sum_by (hand_at j) all k spent_view inside in omega arith

    pub wins_fit : wins_of view ≤ 200000000000000000
    wins_fit =
        let bound = wins_bound s h.system pooled (balanced s h.system pooled balances_pooled paid_pooled) h.limit in
        let one = get_or-le-sum_by wins_of all k spent_view inside in
        omega arith
