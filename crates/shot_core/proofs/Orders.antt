-- Every order of events keeps the accounts.
use Rattle.std.proofs.Common.{◌≡◌, ℕ, ◌+◌, ◌<◌, ◌≤◌, Bool, true, false, cond, List, [], ◌∷◌, ◌++◌, length, get_or, set, refl, sym, ap, subst, ◌∙◌, arith, ⊎_elim, length-set, get_or-set_same, get_or-set_other}
use Rattle.std.proofs.lemmas.Bool.{true≢false, and_parts, ltb-true, leb-true, eqb-true, cases_lt}
use Rattle.std.proofs.lemmas.List.{get_or_past, get_or_append_left, length-append}
use Rattle.std.proofs.lemmas.List.Folds.{sum_by-zero}
use Rattle.std.proofs.lemmas.List.Sums.{get_or-le-sum_by}
use Rattle.shot_core.specs.declared.roles.Role.{Role}
use Rattle.shot_core.specs.declared.roles.Role.TheVariants.{Desk, Actor, Retired}
use Rattle.shot_core.specs.declared.views.View.{View}
use Rattle.shot_core.specs.declared.events.Event.{Event}
use Rattle.shot_core.specs.declared.events.Event.TheVariants.{Hire, Take, Give, Retire}
use Rattle.shot_core.specs.Hands.{is_empty}
use Rattle.shot_core.specs.Views.{new_view, spent_view, after_take, after_give, after_hire, after_retire, is_actor}
use Rattle.shot_core.specs.World.{ShootingWorld, desk_of, view_of, is_hired, is_legal, moved, after, after_all, number_moved, IsConservedIn, WinsAreBoundedIn, WordsAreBoundedIn}
use Rattle.shot_core.specs.Layouts.{IsInOrder}
use Rattle.shot_core.proofs.Pooled.{is_conserved, wins_are_bounded, words_are_bounded}
use Rattle.shot_core.proofs.TakesGives.{take_keeps, give_keeps}
use Rattle.shot_core.proofs.HiresRetires.{hire_keeps, retire_keeps}

-- an empty hand has nothing for any patch
pub empty_at : (amounts : List ℕ) → is_empty amounts ≡ true → (j : ℕ) → get_or amounts j 0 ≡ 0
empty_at amounts empty j =
    let none = eqb-true _ _ (sum_by-zero (λ (x : ℕ). x) amounts ∙ empty) in
    ⊎_elim (λ (h : j < length amounts). let le = get_or-le-sum_by (λ (x : ℕ). x) amounts j 0 h in omega arith) (λ (h : length amounts ≤ j). get_or_past amounts j 0 h) (cases_lt j (length amounts))

-- what is legal in a world is so in one that is the same
pub legal_in : (event : Event) (w u : ShootingWorld) → w ≡ u → is_legal u event ≡ true → is_legal w event ≡ true
legal_in event w u same = subst (λ (x : ShootingWorld). is_legal x event ≡ true) (sym same)

pub actor_role : (r : Role) → is_actor r ≡ true → r ≡ Actor
actor_role Desk e = absurd (true≢false (sym e))
actor_role Actor e = refl
actor_role Retired e = absurd (true≢false (sym e))

module _ (w : ShootingWorld) where
  pub hired_inside : (actor : ℕ) → is_hired w actor ≡ true → actor + 1 < length w.views
  hired_inside actor hired =
      ⊎_elim (λ (h : actor + 1 < length w.views). h)
      (λ (h : length w.views ≤ actor + 1). absurd (true≢false (sym hired ∙ ap (λ (v : View). is_actor v.role) (get_or_past w.views (actor + 1) spent_view h))))
      (cases_lt (actor + 1) (length w.views))

  pub hired_role : (actor : ℕ) → is_hired w actor ≡ true → (view_of w actor).role ≡ Actor
  hired_role actor hired = actor_role (view_of w actor).role hired

  module _ (o : IsInOrder w) where
    -- the desk stays where another view changes
    desk_stays : (actor : ℕ) (v : View) → (get_or (set w.views (actor + 1) v) 0 spent_view).role ≡ Desk
    desk_stays actor v = ap (λ (d : View). d.role) (get_or-set_other w.views (actor + 1) 0 v spent_view (λ e. absurd (omega arith))) ∙ o.at_desk

    pub moved_in_order : (event : Event) → is_legal w event ≡ true → IsInOrder (moved w event)
    moved_in_order Hire legal =
        let long = length-set w.views 0 (after_hire (desk_of w)) in
        let more = length-append (set w.views 0 (after_hire (desk_of w))) (new_view w.system w.direct Actor ∷ []) in
        let first = o.first in
        record {
          accounts = hire_keeps w.system w.direct w.words w.views o.accounts 0 o.first o.at_desk;
          first = omega arith;
          at_desk = ap (λ (d : View). d.role) (get_or_append_left (set w.views 0 (after_hire (desk_of w))) (new_view w.system w.direct Actor ∷ []) spent_view 0 (omega arith) ∙ get_or-set_same w.views 0 (after_hire (desk_of w)) spent_view o.first) ∙ o.at_desk;
        }
    moved_in_order (Take actor patch) legal =
        let parts = and_parts _ _ legal in
        let reached = and_parts _ _ parts.1 in
        let long = length-set w.views (actor + 1) (after_take (view_of w actor) patch (get_or w.words patch 0)) in
        let first = o.first in
        record {
          accounts = take_keeps w.system w.direct w.words w.views o.accounts (actor + 1) (hired_inside actor parts.0) (hired_role actor parts.0) patch (ltb-true _ _ reached.0) (leb-true _ _ reached.1);
          first = omega arith;
          at_desk = desk_stays actor (after_take (view_of w actor) patch (get_or w.words patch 0));
        }
    moved_in_order (Give actor target) legal =
        let parts = and_parts _ _ legal in
        let long = length-set w.views (actor + 1) (after_give (view_of w actor) target) in
        let first = o.first in
        record {
          accounts = give_keeps w.system w.direct w.words w.views o.accounts (actor + 1) (hired_inside actor parts.0) (hired_role actor parts.0) target (ltb-true _ _ parts.1);
          first = omega arith;
          at_desk = desk_stays actor (after_give (view_of w actor) target);
        }
    moved_in_order (Retire actor) legal =
        let parts = and_parts _ _ legal in
        let desk : View = after_retire (desk_of w) (view_of w actor) in
        let long = length-set w.views 0 desk in
        let longer = length-set (set w.views 0 desk) (actor + 1) spent_view in
        let first = o.first in
        record {
          accounts = retire_keeps w.system w.direct w.words w.views o.accounts 0 o.first o.at_desk (actor + 1) (hired_inside actor parts.0) (λ e. absurd (omega arith)) (hired_role actor parts.0) (empty_at (view_of w actor).hand parts.1);
          first = omega arith;
          at_desk = ap (λ (d : View). d.role) (get_or-set_other (set w.views 0 desk) (actor + 1) 0 spent_view spent_view (λ e. absurd (omega arith)) ∙ get_or-set_same w.views 0 desk spent_view o.first) ∙ o.at_desk;
        }

    pub after_in_order : (event : Event) → IsInOrder (after w event)
    after_in_order event = cases (is_legal w event) refl
      where
        cases : (b : Bool) → is_legal w event ≡ b → IsInOrder (cond b (moved w event) w)
        cases true legal = moved_in_order event legal
        cases false stuck = o

    pub conserved_in : IsConservedIn w
    conserved_in = is_conserved w.system w.direct w.words w.views o.accounts

    pub wins_in : WinsAreBoundedIn w
    wins_in = wins_are_bounded w.system w.direct w.words w.views o.accounts

    pub words_in : WordsAreBoundedIn w
    words_in = words_are_bounded w.system w.direct w.words w.views o.accounts

pub all_in_order : (events : List Event) (w : ShootingWorld) → IsInOrder w → IsInOrder (after_all w events)
all_in_order [] w o = o
all_in_order (event ∷ events) w o = all_in_order events (after w event) (after_in_order w o event)

-- one event more
pub after_one_more : (events : List Event) (w : ShootingWorld) (event : Event) → after_all w (events ++ event ∷ []) ≡ after (after_all w events) event
after_one_more [] w event = refl
after_one_more (e ∷ events) w event = after_one_more events (after w e) event

pub moved_one_more : (events : List Event) (w : ShootingWorld) (event : Event) → number_moved w (events ++ event ∷ []) ≡ number_moved w events + cond (is_legal (after_all w events) event) 1 0
moved_one_more [] w event = omega arith
moved_one_more (e ∷ events) w event = omega (arith, moved_one_more events (after w e) event)

-- no more events move a world than there are
pub few_moved : (events : List Event) (w : ShootingWorld) → number_moved w events ≤ length events
few_moved [] w = omega arith
few_moved (e ∷ events) w = let rest = few_moved events (after w e) in let one = at_most (is_legal w e) in omega arith
  where
    at_most : (b : Bool) → cond b 1 0 ≤ 1
    at_most true = omega arith
    at_most false = omega arith

-- events leave the system
pub same_system : (events : List Event) (w : ShootingWorld) → (after_all w events).system ≡ w.system
same_system [] w = refl
same_system (e ∷ events) w = same_system events (after w e) ∙ cases (is_legal w e) e
  where
    cases : (b : Bool) (event : Event) → (cond b (moved w event) w).system ≡ w.system
    cases true Hire = refl
    cases true (Take actor patch) = refl
    cases true (Give actor target) = refl
    cases true (Retire actor) = refl
    cases false event = refl
