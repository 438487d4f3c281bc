-- A take and a give keep the accounts.
use Rattle.std.proofs.Common.{◌≡◌, ℕ, ◌+◌, ◌*◌, ◌/◌, ◌%◌, ◌<◌, ◌≤◌, List, All, length, get_or, set, refl, sym, ap, subst, ◌∙◌, arith, length-set, get_or-set_same, get_or-set_other}
use mathlib.Core.Logic.{dite}
use native.Mathlib.Decide.{ℕ_discrete}
use Rattle.std.proofs.lemmas.List.Elements.{All-set}
use Rattle.std.proofs.lemmas.List.Sums.{sum_by-set}
use Rattle.flux_system.specs.System.{FluxSystem, scale, patches, coefficient}
use Rattle.shot_core.specs.declared.roles.Role.{Role}
use Rattle.shot_core.specs.declared.roles.Role.TheVariants.{Desk, Actor}
use Rattle.shot_core.specs.declared.views.View.{View}
use Rattle.shot_core.specs.Shots.{parts_after}
use Rattle.shot_core.specs.Views.{spent_view, after_take, after_give, taken_at, given_at, hand_at, err_at, total, is_desk, is_actor, is_retired, number_of}
use Rattle.shot_core.specs.Accounts.{AccountsHold, IsBooked, HasFractions, IsPaidFor, IsOfSystem, HasShape, parts_due, IsDesk}
use Rattle.shot_core.proofs.Lists.{list-at, list-length, set-zero}
use Rattle.shot_core.proofs.Taking.{taken_moved, taken_sum, passed_more}
use Rattle.shot_core.proofs.RoleCounts.{desk_apart, number_same}

module _ (s : FluxSystem) (flux residual : List ℕ) (all : List View) (h : AccountsHold s flux residual all) (k : ℕ) (inside : k < length all) (is : (get_or all k spent_view).role ≡ Actor) where
  abbrev v : View
  v = get_or all k spent_view

  of_system : IsOfSystem s flux v
  of_system = subst (λ (r : Role). HasShape s flux r v) is (h.shape k spent_view inside)

  one_part : v.parts ≡ 1
  one_part = h.parts k spent_view inside ∙ ap (parts_due (number_of is_retired all)) is

  -- whatever else became of the view
  module _ (w : View) (role : w.role ≡ v.role) (parts : w.parts ≡ v.parts) where
    same_desk : All (λ u. u.role ≡ Desk → IsDesk (number_of is_actor (set all k w)) u) (set all k w)
    same_desk =
        subst (λ (n : ℕ). All (λ u. u.role ≡ Desk → IsDesk n u) (set all k w)) (sym (number_same all k inside is_actor w role))
        (All-set (λ u. u.role ≡ Desk → IsDesk (number_of is_actor all) u) all k w (λ desk. absurd (desk_apart w.role (role ∙ is) desk)) h.desk)

    same_parts : All (λ u. u.parts ≡ parts_due (number_of is_retired (set all k w)) u.role) (set all k w)
    same_parts =
        subst (λ (n : ℕ). All (λ u. u.parts ≡ parts_due n u.role) (set all k w)) (sym (number_same all k inside is_retired w role))
        (All-set (λ u. u.parts ≡ parts_due (number_of is_retired all) u.role) all k w (parts ∙ (h.parts k spent_view inside ∙ ap (parts_due (number_of is_retired all)) (sym role))) h.parts)

    still_hold : (words : List ℕ) → length words ≡ patches s
        → ((j : ℕ) → j < patches s → get_or words j 0 + total (taken_at j) (set all k w) ≡ get_or flux j 0 + total (given_at j) (set all k w))
        → IsBooked s w → HasFractions s w → IsPaidFor s w → IsOfSystem s flux w → AccountsHold s flux words (set all k w)
    still_hold words of_words balance booked fractions paid of = record {
      system = h.system;
      limit = h.limit;
      of_direct = h.of_direct;
      of_words = of_words;
      words = balance;
      views = All-set (IsBooked s) all k w booked h.views;
      fractions = All-set (HasFractions s) all k w fractions h.fractions;
      wins = All-set (IsPaidFor s) all k w paid h.wins;
      shape = All-set (λ u. HasShape s flux u.role u) all k w (subst (λ (r : Role). HasShape s flux r w) (sym (role ∙ is)) of) h.shape;
      one_desk = number_same all k inside is_desk w role ∙ h.one_desk;
      desk = same_desk;
      parts = same_parts;
    }

  -- a sum over the views, once the one at k changed
  changed : (f : View → ℕ) (w : View) → total f (set all k w) + f v ≡ total f all + f w
  changed f w = sum_by-set f all k w spent_view inside

  -- the whole word of a patch is taken
  module _ (i : ℕ) (in_system : i < patches s) (enough : s.threshold ≤ get_or residual i 0) where
    abbrev t : ℕ
    t = get_or residual i 0

    abbrev taker : View
    taker = after_take v i t

    in_taken : i < length v.taken
    in_taken = let long = of_system.of_taken in omega arith

    hand_after : (j : ℕ) → j < patches s → hand_at j taker ≡ hand_at j v + (err_at j v + t * coefficient s i j) / scale
    hand_after j l =
        let n = ap patches of_system.system in
        list-at (λ m. get_or v.hand m 0 + parts_after v.system i t v.err m / scale) (patches v.system) j (omega arith)
        ∙ ap (λ (q : FluxSystem). hand_at j v + (err_at j v + t * coefficient q i j) / scale) of_system.system

    err_after : (j : ℕ) → j < patches s → err_at j taker ≡ (err_at j v + t * coefficient s i j) % scale
    err_after j l =
        let n = ap patches of_system.system in
        list-at (λ m. parts_after v.system i t v.err m % scale) (patches v.system) j (omega arith)
        ∙ ap (λ (q : FluxSystem). (err_at j v + t * coefficient q i j) % scale) of_system.system

    pub take_keeps : AccountsHold s flux (set residual i 0) (set all k taker)
    take_keeps =
        still_hold taker refl refl (set residual i 0) (length-set residual i 0 ∙ h.of_words)
        (λ j l. let old = h.words j l in let taken = changed (taken_at j) taker in let given = changed (given_at j) taker in let word = taken_moved v.taken i t in_taken residual refl j in omega arith)
        (λ j l. let old = h.views k spent_view inside j l in let hand = hand_after j l in let err = err_after j l in let more = passed_more v.taken i t in_taken s in_system j in omega arith)
        (λ j l. let err = err_after j l in let one = one_part in omega arith)
        (let old = h.wins k spent_view inside in let more = taken_sum v.taken i t in_taken s in_system in omega arith)
        record {
          system = of_system.system;
          direct = of_system.direct;
          of_taken = length-set v.taken i (get_or v.taken i 0 + t) ∙ of_system.of_taken;
          of_given = of_system.of_given;
          of_hand = list-length _ (patches v.system) ∙ ap patches of_system.system;
          of_err = list-length _ (patches v.system) ∙ ap patches of_system.system;
        }

  -- a patch is given all that is in hand for it
  module _ (target : ℕ) (in_system : target < patches s) where
    abbrev giver : View
    giver = after_give v target

    abbrev word : ℕ
    word = get_or residual target 0 + hand_at target v

    -- what is given leaves the hand
    given_after : (j : ℕ) → given_at j giver + hand_at j giver ≡ given_at j v + hand_at j v
    given_after j =
        let long = of_system.of_given in
        dite (ℕ_discrete j target)
        (λ same. subst (λ (m : ℕ). given_at m giver + hand_at m giver ≡ given_at m v + hand_at m v) (sym same)
        (let given = get_or-set_same v.given target (given_at target v + hand_at target v) 0 (omega arith) in let none = set-zero v.hand target in omega arith))
        (λ ne. let given = get_or-set_other v.given target j (given_at target v + hand_at target v) 0 ne in let hand = get_or-set_other v.hand target j 0 0 ne in omega arith)

    -- and reaches the word
    word_after : (j : ℕ) → get_or (set residual target word) j 0 + given_at j v ≡ get_or residual j 0 + given_at j giver
    word_after j =
        let long = of_system.of_given in
        let words = h.of_words in
        dite (ℕ_discrete j target)
        (λ same. subst (λ (m : ℕ). get_or (set residual target word) m 0 + given_at m v ≡ get_or residual m 0 + given_at m giver) (sym same)
        (let given = get_or-set_same v.given target (given_at target v + hand_at target v) 0 (omega arith) in let now = get_or-set_same residual target word 0 (omega arith) in omega arith))
        (λ ne. let given = get_or-set_other v.given target j (given_at target v + hand_at target v) 0 ne in let now = get_or-set_other residual target j word 0 ne in omega arith)

    pub give_keeps : AccountsHold s flux (set residual target word) (set all k giver)
    give_keeps =
        still_hold giver refl refl (set residual target word) (length-set residual target word ∙ h.of_words)
        (λ j l. let old = h.words j l in let taken = changed (taken_at j) giver in let given = changed (given_at j) giver in let now = word_after j in omega arith)
        (λ j l. let old = h.views k spent_view inside j l in let now = given_after j in omega arith)
        (h.fractions k spent_view inside)
        (h.wins k spent_view inside)
        record {
          system = of_system.system;
          direct = of_system.direct;
          of_taken = of_system.of_taken;
          of_given = length-set v.given target (given_at target v + hand_at target v) ∙ of_system.of_given;
          of_hand = length-set v.hand target 0 ∙ of_system.of_hand;
          of_err = of_system.of_err;
        }
