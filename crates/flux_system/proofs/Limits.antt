-- Which limit a direct flux is past.
use Rattle.std.proofs.Common.{◌≡◌, ℕ, ◌<◌, ◌≤◌, List, Ok, Err, sym, ap, subst, ◌∙◌, arith}
use Rattle.std.specs.List.{sum}
use Rattle.std.proofs.lemmas.Bool.{le-leb, lt-leb}
use Rattle.duties.specs.Duties.{judged}
use Rattle.duties.proofs.Orders.{this_met, this_fails, none_left, unless_holds, unless_fails, judged_ok, judged_err}
use Rattle.flux_system.specs.declared.faults.LimitFault.TheVariants.{FluxTooLarge, TooManyTakes}
use Rattle.flux_system.specs.System.{FluxSystem, bound_of_takes}
use Rattle.flux_system.specs.Limits.{limit_duties}

module _ (s : FluxSystem) (direct : List ℕ) (flux : ℕ) (flux_is : flux ≡ sum direct) where
  pub past_flux : 10000000000000000 < flux → Err (FluxTooLarge flux) ≡ judged (limit_duties s direct) (bound_of_takes s direct)
  unfolding limit_duties
  past_flux h = ap (λ (x : ℕ). Err (FluxTooLarge x)) flux_is ∙ sym (judged_err _ _ _ (this_fails _ _ _ (unless_fails _ _ (lt-leb _ _ (omega arith)))))

  module _ (low : flux ≤ 10000000000000000) (bound : ℕ) (bound_is : bound ≡ bound_of_takes s direct) where
    pub past_takes : 100000000 < bound → Err (TooManyTakes bound) ≡ judged (limit_duties s direct) (bound_of_takes s direct)
    unfolding limit_duties
    past_takes h =
        ap (λ (x : ℕ). Err (TooManyTakes x)) bound_is
        ∙ sym (judged_err _ _ _ (this_met _ _ (unless_holds _ _ (le-leb _ _ (omega arith))) ∙ this_fails _ _ _ (unless_fails _ _ (lt-leb _ _ (subst (λ (x : ℕ). 100000000 < x) bound_is h)))))

    pub within_limits : bound ≤ 100000000 → Ok bound ≡ judged (limit_duties s direct) (bound_of_takes s direct)
    unfolding limit_duties
    within_limits h =
        ap Ok bound_is
        ∙ sym (judged_ok _ _ (this_met _ _ (unless_holds _ _ (le-leb _ _ (omega arith))) ∙ (this_met _ _ (unless_holds _ _ (le-leb _ _ (subst (λ (x : ℕ). x ≤ 100000000) bound_is h))) ∙ none_left)))
