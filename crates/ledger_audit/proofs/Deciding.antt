-- When all tests of an audit are passed, and what its finding can be.
use Rattle.std.proofs.Common.{◌≡◌, ◌≢◌, ℕ, ◌*◌, ◌/◌, ◌<◌, ◌≤◌, ◌^◌, true, false, true≢false, List, length, get_or, Some, None, IfSome, unwrap_or, refl, sym, ap, subst, ◌∙◌, arith, ext_get_or}
use Rattle.std.specs.List.{sum}
use Rattle.std.proofs.Math.Nat.{div-mul-le_self}
use Rattle.std.proofs.lemmas.Nat.{le-div, mul-le}
use Rattle.std.proofs.lemmas.Bool.{leb-true, ltb-true, eqb-true, le-leb, lt-ltb, eq-eqb, and_parts, and_from}
use Rattle.std.proofs.lemmas.List.FromFn.{get_or-map-range_with_len, fill_by_all}
use Rattle.duties.specs.Duties.{Duty, first, each}
use Rattle.duties.proofs.Orders.{this_met, none_left, unless_holds, unless_met, all_met, each_met}
use Rattle.flux_system.specs.System.{FluxSystem, scale, patches, least_keep}
use Rattle.flux_system.specs.Validity.{IsSystem}
use Rattle.flux_system.specs.Limits.{limit_duties}
use Rattle.flux_system.proofs.Keeping.{least_keep-above}
use Rattle.flux_ledger.specs.declared.ledger.Ledger.{Ledger}
use Rattle.flux_ledger.specs.Balance.{HasPatches}
use Rattle.enclosure.specs.Interval.{interval_of, intervals_of, IsDone}
use Rattle.ledger_audit.specs.declared.findings.Finding.{Finding}
use Rattle.ledger_audit.specs.declared.findings.Finding.TheVariants.{Balanced, Bounds}
use Rattle.ledger_audit.specs.Findings.{direct_duty, err_duty, residual_duty, balance_duty, audit_duties, IsAccountOf, bounds_duty, is_of_bounds}
use Rattle.ledger_audit.proofs.Firsts.{each_all, unless_tells, first_tells, none_tells, each_tells}

-- a direct flux within the limits is at most 10^16 nanolumens
pub limited : (s : FluxSystem) (direct : List ℕ) → first (limit_duties s direct) ≡ None → sum direct ≤ 10 ^ 16
unfolding limit_duties
limited s direct within = leb-true _ _ (unless_met _ _ (all_met _ _ within).0)

-- wins within the bound of takes
few_from_bound : (wins threshold least flux : ℕ) → wins ≤ scale * flux / (threshold * least) → (wins * threshold) * least ≤ scale * flux
few_from_bound wins threshold least flux le =
    let below = div-mul-le_self (scale * flux) (threshold * least) in
    let times = mul-le wins (threshold * least) (scale * flux / (threshold * least)) (threshold * least) le (omega arith) in
    omega arith

bound_from_few : (wins threshold least flux : ℕ) → 0 < threshold → 0 < least → (wins * threshold) * least ≤ scale * flux → wins ≤ scale * flux / (threshold * least)
bound_from_few wins threshold least flux some kept few =
    let positive = mul-le 1 1 threshold least some kept in
    le-div wins (scale * flux) (threshold * least) (omega arith) (omega arith)

module _ (s : FluxSystem) (direct : List ℕ) (l : Ledger) (long : length direct ≡ patches s) (lengths : HasPatches (length l.direct) l) where
  -- all tests are passed: the ledger is balanced, finished and of this direct flux
  pub account_where_met : first (audit_duties s direct l) ≡ None → IsAccountOf s direct l
  unfolding audit_duties
  account_where_met met =
      let a = all_met _ _ met in
      let b = all_met _ _ a.1 in
      let c = all_met _ _ b.1 in
      let d = all_met _ _ c.1 in
      let e = all_met _ _ d.1 in
      let w = all_met _ _ e.1 in
      let size = eqb-true _ _ (unless_met _ _ a.0) in
      let same : l.direct ≡ direct = ext_get_or 0 l.direct direct (sym size ∙ sym long) (λ k h. sym (eqb-true _ _ (unless_met _ _ (each_met (direct_duty direct l) (patches s) k b.0 (omega arith))))) in
      record {
        balanced = record {
          lengths = subst (λ (n : ℕ). HasPatches n l) (sym size) lengths;
          balance = λ j h. eqb-true _ _ (unless_met _ _ (each_met (balance_duty s l) (patches s) j e.0 h));
          fractions = λ j h. ltb-true _ _ (unless_met _ _ (each_met (err_duty l) (patches s) j c.0 h));
          few_wins = subst (λ (flux : List ℕ). (l.wins * s.threshold) * least_keep s ≤ scale * sum flux) (sym same) (few_from_bound l.wins s.threshold (least_keep s) (sum direct) (leb-true _ _ (unless_met _ _ w.0)));
        };
        finished = λ j h. ltb-true _ _ (unless_met _ _ (each_met (residual_duty s l) (patches s) j d.0 h));
        direct = same;
      }

  -- and the other way round
  pub met_where_account : IsSystem s → IsAccountOf s direct l → first (audit_duties s direct l) ≡ None
  unfolding audit_duties
  met_where_account valid account =
      let balanced = account.balanced in
      let above = least_keep-above s valid in
      let positive = valid.positive in
      let few = subst (λ (flux : List ℕ). (l.wins * s.threshold) * least_keep s ≤ scale * sum flux) account.direct balanced.few_wins in
      let bound = bound_from_few l.wins s.threshold (least_keep s) (sum direct) (omega arith) (omega arith) few in
      this_met _ _ (unless_holds _ _ (eq-eqb _ _ (sym balanced.lengths.of_direct)))
      ∙ (this_met _ _ (each_all (direct_duty direct l) (patches s) (λ j h. unless_holds _ _ (eq-eqb _ _ (ap (λ (flux : List ℕ). get_or flux j 0) (sym account.direct)))))
      ∙ (this_met _ _ (each_all (err_duty l) (patches s) (λ j h. unless_holds _ _ (lt-ltb _ _ (balanced.fractions j h))))
      ∙ (this_met _ _ (each_all (residual_duty s l) (patches s) (λ j h. unless_holds _ _ (lt-ltb _ _ (account.finished j h))))
      ∙ (this_met _ _ (each_all (balance_duty s l) (patches s) (λ j h. unless_holds _ _ (eq-eqb _ _ (balanced.balance j h))))
      ∙ (this_met _ _ (unless_holds _ _ (le-leb _ _ bound)) ∙ none_left)))))

-- no test of a ledger tells of an interval, or of nothing
pub tests_tell : (s : FluxSystem) (direct : List ℕ) (l : Ledger) → IfSome (first (audit_duties s direct l)) (λ f. is_of_bounds f ≡ false)
unfolding audit_duties
tests_tell s direct l =
    let P : Finding → Type 0 = λ f. is_of_bounds f ≡ false in
    first_tells P _ _ (unless_tells P _ _ refl)
    (first_tells P _ _ (each_tells P (direct_duty direct l) (patches s) (λ j. unless_tells P _ _ refl))
    (first_tells P _ _ (each_tells P (err_duty l) (patches s) (λ j. unless_tells P _ _ refl))
    (first_tells P _ _ (each_tells P (residual_duty s l) (patches s) (λ j. unless_tells P _ _ refl))
    (first_tells P _ _ (each_tells P (balance_duty s l) (patches s) (λ j. unless_tells P _ _ refl))
    (first_tells P _ _ (unless_tells P _ _ refl) (none_tells P))))))

-- the finding is Balanced only where no test tells anything
pub met_where_balanced : (duty : Duty Finding) → IfSome duty (λ f. is_of_bounds f ≡ false) → unwrap_or duty Balanced ≡ Balanced → duty ≡ None
met_where_balanced None told is = refl
met_where_balanced (Some f) told is = absurd (true≢false (ap is_of_bounds (sym is) ∙ told))

pub never_of_bounds : (duty : Duty Finding) → IfSome duty (λ f. is_of_bounds f ≡ false) → (patch low high : ℕ) → unwrap_or duty Balanced ≢ Bounds patch low high
never_of_bounds None told patch low high is = cc
never_of_bounds (Some f) told patch low high is = true≢false (ap is_of_bounds (sym is) ∙ told)

-- an account of a direct flux within the limits has intervals
pub done_where_account : (s : FluxSystem) (direct : List ℕ) (l : Ledger) → first (limit_duties s direct) ≡ None → IsAccountOf s direct l → IsDone s l
done_where_account s direct l within account = record {
  balanced = account.balanced;
  finished = account.finished;
  limited = subst (λ (flux : List ℕ). sum flux ≤ 10 ^ 16) (sym account.direct) (limited s direct within);
}

module _ (s : FluxSystem) (l : Ledger) (given : List (ℕ × ℕ)) where
  -- each test of a pair tells of its interval, and so never of nothing
  pub pairs_tell : IfSome (each (patches s) (bounds_duty s l given)) (λ f. (is_of_bounds f ≡ true) × (f ≢ Balanced))
  pairs_tell = let P : Finding → Type 0 = λ f. (is_of_bounds f ≡ true) × (f ≢ Balanced) in each_tells P (bounds_duty s l given) (patches s) (λ j. unless_tells P _ _ (refl, λ e. cc))

  -- all tests are passed just where the pairs are the intervals
  pub intervals_where_met : length given ≡ patches s → each (patches s) (bounds_duty s l given) ≡ None → given ≡ intervals_of s l
  intervals_where_met long met =
      fill_by_all (interval_of s l) given (patches s) (0, 0) long (λ k h.
      let both = and_parts _ _ (unless_met _ _ (each_met (bounds_duty s l given) (patches s) k met h)) in
      let low = eqb-true _ _ both.0 in
      let high = eqb-true _ _ both.1 in
      λ x. (low x, high x))

  pub met_where_intervals : given ≡ intervals_of s l → each (patches s) (bounds_duty s l given) ≡ None
  met_where_intervals are = each_all (bounds_duty s l given) (patches s) (λ k h.
      let at = ap (λ (pairs : List (ℕ × ℕ)). get_or pairs k (0, 0)) are ∙ get_or-map-range_with_len (interval_of s l) 0 (patches s) k k (0, 0) h (omega arith) in
      unless_holds _ _ (and_from _ _ (eq-eqb _ _ (ap (λ (pair : ℕ × ℕ). pair.0) at)) (eq-eqb _ _ (ap (λ (pair : ℕ × ℕ). pair.1) at))))

pub balanced_pairs : (duty : Duty Finding) → IfSome duty (λ f. (is_of_bounds f ≡ true) × (f ≢ Balanced)) → unwrap_or duty Balanced ≡ Balanced → duty ≡ None
balanced_pairs None told is = refl
balanced_pairs (Some f) told is = absurd (told.1 is)

pub always_of_bounds : (duty : Duty Finding) → IfSome duty (λ f. (is_of_bounds f ≡ true) × (f ≢ Balanced)) → is_of_bounds (unwrap_or duty Balanced) ≡ true
always_of_bounds None told = refl
always_of_bounds (Some f) told = told.0
