-- What an event adds up fits, since the accounts hold after it.
use Rattle.std.proofs.Common.{◌≡◌, ℕ, ◌+◌, ◌<◌, ◌≤◌, Bool, true, false, cond, List, length, get_or, set, ap, subst, ◌∙◌, arith, length-set, get_or-set_same, get_or-set_other}
use Rattle.std.proofs.lemmas.Bool.{and_parts, ltb-true}
use Rattle.std.proofs.lemmas.List.Sums.{sum_by-le, get_or-le-sum_by}
use Rattle.flux_system.specs.System.{patches}
use Rattle.shot_core.specs.declared.roles.Role.{Role}
use Rattle.shot_core.specs.declared.views.View.{View}
use Rattle.shot_core.specs.declared.events.Event.TheVariants.{Take, Give, Retire}
use Rattle.shot_core.specs.Views.{spent_view, after_take, after_give, after_retire, taken_at, given_at, hand_at, err_at, wins_of, is_actor, is_retired, one_for, number_of}
use Rattle.shot_core.specs.Accounts.{IsOfSystem, HasShape, parts_due}
use Rattle.shot_core.specs.World.{ShootingWorld, desk_of, view_of, is_hired, is_legal, moved}
use Rattle.shot_core.specs.Layouts.{IsInOrder}
use Rattle.shot_core.proofs.Lists.{list-at}
use Rattle.shot_core.proofs.Pooled.{taken_fits, given_fits, hand_fits, wins_fit}
use Rattle.shot_core.proofs.RoleCounts.{one_of}
use Rattle.shot_core.proofs.HiresRetires.{desk_of_system, desk_parts, at_desk}
use Rattle.shot_core.proofs.Orders.{hired_inside, hired_role, moved_in_order}

-- there are no more views of a role than views
number-le : (test : Role → Bool) (all : List View) → number_of test all ≤ length all
number-le test all = let le = sum_by-le (one_for test) 1 all (λ k d inside. one (test (get_or all k d).role)) in omega arith
  where
    one : (b : Bool) → cond b 1 0 ≤ 1
    one true = omega arith
    one false = omega arith

module _ (w : ShootingWorld) (o : IsInOrder w) where
  pub desk_shape : IsOfSystem w.system w.direct (desk_of w)
  desk_shape = desk_of_system w.system w.direct w.words w.views o.accounts 0 o.first o.at_desk

  pub few_out : (desk_of w).out ≤ length w.views
  few_out = let counts = (at_desk w.system w.direct w.words w.views o.accounts 0 o.first o.at_desk).counts in let le = number-le is_actor w.views in omega arith

  pub few_parts : (desk_of w).parts ≤ length w.views + 1
  few_parts = let parts = desk_parts w.system w.direct w.words w.views o.accounts 0 o.first o.at_desk in let le = number-le is_retired w.views in omega arith

  module _ (actor : ℕ) (hired : is_hired w actor ≡ true) where
    abbrev v : View
    v = view_of w actor

    inside : actor + 1 < length w.views
    inside = hired_inside w actor hired

    pub actor_shape : IsOfSystem w.system w.direct v
    actor_shape = subst (λ (r : Role). HasShape w.system w.direct r v) (hired_role w actor hired) (o.accounts.shape (actor + 1) spent_view inside)

    pub some_out : 0 < (desk_of w).out
    some_out =
        let counts = (at_desk w.system w.direct w.words w.views o.accounts 0 o.first o.at_desk).counts in
        let le = get_or-le-sum_by (one_for is_actor) w.views (actor + 1) spent_view inside in
        let one = ap (one_of is_actor) (hired_role w actor hired) in
        omega arith

    pub word_fits : (j : ℕ) → j < patches w.system → get_or w.words j 0 + hand_at j v ≤ 10000000000000000
    word_fits = hand_fits w.system w.direct w.words w.views o.accounts (actor + 1) inside

    -- the view of the actor, once it took or gave
    changed_at : (x : View) → get_or (set w.views (actor + 1) x) (actor + 1) spent_view ≡ x
    changed_at x = get_or-set_same w.views (actor + 1) x spent_view inside

    inside_changed : (x : View) → actor + 1 < length (set w.views (actor + 1) x)
    inside_changed x = let long = length-set w.views (actor + 1) x in let before = inside in omega arith

    module _ (patch : ℕ) (legal : is_legal w (Take actor patch) ≡ true) where
      abbrev taker : View
      taker = after_take v patch (get_or w.words patch 0)

      abbrev after_it : IsInOrder (moved w (Take actor patch))
      after_it = moved_in_order w o (Take actor patch) legal

      pub take_in_system : patch < patches w.system
      take_in_system = ltb-true _ _ (and_parts _ _ (and_parts _ _ legal).1).0

      pub take_hand_fits : (j : ℕ) → j < patches w.system → hand_at j taker ≤ 10000000000000000
      take_hand_fits j h =
          let fits = hand_fits w.system w.direct (set w.words patch 0) (set w.views (actor + 1) taker) after_it.accounts (actor + 1) (inside_changed taker) j h in
          let is = ap (hand_at j) (changed_at taker) in
          omega arith

      pub take_taken_fits : taken_at patch v + get_or w.words patch 0 ≤ 200000000000000000
      take_taken_fits =
          let fits = taken_fits w.system w.direct (set w.words patch 0) (set w.views (actor + 1) taker) after_it.accounts (actor + 1) (inside_changed taker) patch take_in_system in
          let is = ap (taken_at patch) (changed_at taker) in
          let long = actor_shape.of_taken in
          let within = take_in_system in
          let here = get_or-set_same v.taken patch (taken_at patch v + get_or w.words patch 0) 0 (omega arith) in
          omega arith

      pub take_wins_fit : v.wins + 1 ≤ 200000000000000000
      take_wins_fit =
          let fits = wins_fit w.system w.direct (set w.words patch 0) (set w.views (actor + 1) taker) after_it.accounts (actor + 1) (inside_changed taker) in
          let is = ap wins_of (changed_at taker) in
          omega arith

    module _ (target : ℕ) (legal : is_legal w (Give actor target) ≡ true) where
      abbrev giver : View
      giver = after_give v target

      pub give_in_system : target < patches w.system
      give_in_system = ltb-true _ _ (and_parts _ _ legal).1

      pub give_given_fits : given_at target v + hand_at target v ≤ 210000000000000000
      give_given_fits =
          let fits = given_fits w.system w.direct (set w.words target (get_or w.words target 0 + hand_at target v)) (set w.views (actor + 1) giver) (moved_in_order w o (Give actor target) legal).accounts (actor + 1) (inside_changed giver) target give_in_system in
          let is = ap (given_at target) (changed_at giver) in
          let long = actor_shape.of_given in
          let within = give_in_system in
          let here = get_or-set_same v.given target (given_at target v + hand_at target v) 0 (omega arith) in
          omega arith

    module _ (legal : is_legal w (Retire actor) ≡ true) where
      abbrev retirer : View
      retirer = after_retire (desk_of w) v

      abbrev without_one : List View
      without_one = set (set w.views 0 retirer) (actor + 1) spent_view

      abbrev after_all_in : IsInOrder (moved w (Retire actor))
      after_all_in = moved_in_order w o (Retire actor) legal

      desk_now : get_or without_one 0 spent_view ≡ retirer
      desk_now = get_or-set_other (set w.views 0 retirer) (actor + 1) 0 spent_view spent_view (λ e. absurd (omega arith)) ∙ get_or-set_same w.views 0 retirer spent_view o.first

      in_desk : (j : ℕ) → j < patches w.system → j < patches (desk_of w).system
      in_desk j h = let same = ap patches desk_shape.system in omega arith

      pub retire_taken_fits : (j : ℕ) → j < patches w.system → taken_at j (desk_of w) + taken_at j v ≤ 200000000000000000
      retire_taken_fits j h =
          let fits = taken_fits w.system w.direct w.words without_one after_all_in.accounts 0 after_all_in.first j h in
          let is = ap (taken_at j) desk_now ∙ list-at (λ m. taken_at m (desk_of w) + taken_at m v) (patches (desk_of w).system) j (in_desk j h) in
          omega arith

      pub retire_given_fits : (j : ℕ) → j < patches w.system → given_at j (desk_of w) + given_at j v ≤ 210000000000000000
      retire_given_fits j h =
          let fits = given_fits w.system w.direct w.words without_one after_all_in.accounts 0 after_all_in.first j h in
          let is = ap (given_at j) desk_now ∙ list-at (λ m. given_at m (desk_of w) + given_at m v) (patches (desk_of w).system) j (in_desk j h) in
          omega arith

      pub retire_wins_fit : (desk_of w).wins + v.wins ≤ 200000000000000000
      retire_wins_fit = let fits = wins_fit w.system w.direct w.words without_one after_all_in.accounts 0 after_all_in.first in let is = ap wins_of desk_now in omega arith

      -- where there are few views
      pub retire_err_fits : length w.views ≤ 65 → (j : ℕ) → j < patches w.system → err_at j (desk_of w) + err_at j v ≤ 67000000000000
      retire_err_fits few j h =
          let less = after_all_in.accounts.fractions 0 spent_view after_all_in.first j h in
          let is = ap (err_at j) desk_now ∙ list-at (λ m. err_at m (desk_of w) + err_at m v) (patches (desk_of w).system) j (in_desk j h) in
          let parts = ap (λ (x : View). x.parts) desk_now in
          let desk = few_parts in
          let one = o.accounts.parts (actor + 1) spent_view inside ∙ ap (parts_due (number_of is_retired w.views)) (hired_role w actor hired) in
          omega arith
