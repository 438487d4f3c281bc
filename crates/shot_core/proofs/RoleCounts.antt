-- How many views are of a role, once one view changed; and the views beside that one.
use Rattle.std.proofs.Common.{◌≡◌, ◌≢◌, ℕ, ◌+◌, ◌<◌, Bool, cond, List, All, length, get_or, set, sym, ap, subst, arith, length-set, get_or-set_same, get_or-set_other}
use mathlib.Core.Logic.{dite}
use native.Mathlib.Decide.{ℕ_discrete}
use Rattle.std.proofs.lemmas.List.Elements.{All-from_get_or}
use Rattle.std.proofs.lemmas.List.Sums.{sum_by-set, get_or-le-sum_by}
use Rattle.shot_core.specs.declared.roles.Role.{Role}
use Rattle.shot_core.specs.declared.roles.Role.TheVariants.{Desk, Actor}
use Rattle.shot_core.specs.declared.views.View.{View}
use Rattle.shot_core.specs.Views.{spent_view, is_desk, one_for, number_of}

-- 1 or 0 for a role
abbrev pub one_of : (Role → Bool) → Role → ℕ
one_of test role = cond (test role) 1 0

-- an actor isn't the desk
pub desk_apart : (r : Role) → r ≡ Actor → r ≡ Desk → ⊥
desk_apart r actor desk = let one = ap (one_of is_desk) desk in let none = ap (one_of is_desk) actor in absurd (omega arith)

module _ (all : List View) (k : ℕ) (inside : k < length all) where
  abbrev view : View
  view = get_or all k spent_view

  pub number_set : (test : Role → Bool) (w : View) → number_of test (set all k w) + one_for test view ≡ number_of test all + one_for test w
  number_set test w = sum_by-set (one_for test) all k w spent_view inside

  pub number_same : (test : Role → Bool) (w : View) → w.role ≡ view.role → number_of test (set all k w) ≡ number_of test all
  number_same test w same = let change = number_set test w in let one = ap (one_of test) same in omega arith

  -- beside the desk's view, none is a desk's
  pub only_desk : number_of is_desk all ≡ 1 → view.role ≡ Desk → (o : ℕ) → o < length all → o ≢ k → (get_or all o spent_view).role ≢ Desk
  only_desk one is o there apart also =
      let long = length-set all k spent_view in
      let change = number_set is_desk spent_view in
      let here = ap (one_of is_desk) is in
      let le = get_or-le-sum_by (one_for is_desk) (set all k spent_view) o spent_view (omega arith) in
      let other = ap (one_for is_desk) (get_or-set_other all k o spent_view spent_view apart) in
      let two = ap (one_of is_desk) also in
      absurd (omega arith)

  -- what holds of a new view at k, and of each of the others
  pub each_other : (Q : View → Type 0) (w : View) → Q w → ((o : ℕ) → o < length all → o ≢ k → Q (get_or all o spent_view)) → All Q (set all k w)
  each_other Q w here others =
      let long = length-set all k w in
      All-from_get_or Q (set all k w) spent_view
      (λ o l. dite (ℕ_discrete o k)
      (λ is. subst (λ (m : ℕ). Q (get_or (set all k w) m spent_view)) (sym is) (subst Q (sym (get_or-set_same all k w spent_view inside)) here))
      (λ ne. subst Q (sym (get_or-set_other all k o w spent_view ne)) (others o (omega arith) ne)))
