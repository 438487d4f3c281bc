-- Gives one after another, as steps of a call.
use Rattle.std.proofs.Common.{◌≡◌, ℕ, ◌+◌, ◌<◌, List, [], ◌∷◌, ◌++◌, map, set, get_or, refl, sym, ap, subst, ◌∙◌, arith, append_assoc, get_or-set_other}
use Rattle.std.proofs.lemmas.List.{append-nil, map-append}
use Rattle.std.proofs.lemmas.List.Elements.{All-nil, All-push}
use mathlib.Core.Logic.{dite}
use native.Mathlib.Decide.{ℕ_discrete}
use Rattle.shot_core.specs.Views.{hand_at}
use Rattle.shot_core.proofs.Lists.{set-zero}
use Rattle.flux_accounts.specs.declared.histories.Entry.{Entry}
use Rattle.flux_accounts.specs.Histories.{after_giving}
use Rattle.flux_accounts.specs.Banks.{SeatFacts}
use Rattle.shooter.specs.Moments.{Moment, Sighting, after_step, after_steps}
use Rattle.shooter.specs.Layouts.{give_step, IsGiving}

pub after_steps-append : (threshold : ℕ) (m : Moment) (steps more : List Entry) → after_steps threshold m (steps ++ more) ≡ after_steps threshold (after_steps threshold m steps) more
after_steps-append threshold m [] more = refl
after_steps-append threshold m (step ∷ steps) more = after_steps-append threshold (after_step threshold m step) steps more

module _ (n threshold : ℕ) (old : SeatFacts) (old_remembered : List ℕ) where
  -- one give more
  pub more_gives : (seat : SeatFacts) (remembered : List ℕ) (target value : ℕ) (new : SeatFacts) → target < n → new ≡ record seat { history = after_giving seat.history target value } → IsGiving n threshold old old_remembered seat remembered
      → IsGiving n threshold old old_remembered new (set remembered target value)
  more_gives seat remembered target value new inside is before =
      let one : Sighting = record { patch = target; value = value } in
      let steps = map-append give_step before.gives (one ∷ []) in
      record {
        gives = before.gives ++ one ∷ [];
        inside = All-push (λ (g : Sighting). g.patch < n) before.gives one before.inside inside;
        log = ap (λ (s : SeatFacts). s.history.log) is ∙ ((λ i. before.log i ++ give_step one ∷ []) ∙ (append_assoc old.history.log (map give_step before.gives) (give_step one ∷ []) ∙ ap (λ (es : List Entry). old.history.log ++ es) (sym steps)));
        moments = λ m remembers account none.
            ap (after_steps threshold m) steps
            ∙ (after_steps-append threshold m (map give_step before.gives) (give_step one ∷ [])
            ∙ (ap (λ (x : Moment). after_step threshold x (give_step one)) (before.moments m remembers account none)
            ∙ (λ i. record m { remembered = set remembered target value; account = (sym is i).history.account; due = sym none i })));
        looks = ap (λ (s : SeatFacts). s.history.looks) is ∙ before.looks;
        lost = ap (λ (s : SeatFacts). s.history.lost) is ∙ before.lost;
        wins = ap (λ (s : SeatFacts). s.history.account.wins) is ∙ before.wins;
        system = ap (λ (s : SeatFacts). s.history.account.system) is ∙ before.system;
        number = ap (λ (s : SeatFacts). s.number) is ∙ before.number;
        table = ap (λ (s : SeatFacts). s.table) is ∙ before.table;
      }

-- what is gone from the hand, once the next patch was given all
module _ (seat new : SeatFacts) (target : ℕ) (gone : (k : ℕ) → k < target → hand_at k seat.history.account ≡ 0) where
  pub gone_given : (value : ℕ) → new ≡ record seat { history = after_giving seat.history target value } → (k : ℕ) → k < target + 1 → hand_at k new.history.account ≡ 0
  gone_given value is k h =
      let hand = ap (λ (s : SeatFacts). hand_at k s.history.account) is in
      dite (ℕ_discrete k target)
      (λ same. let none : get_or (set seat.history.account.hand target 0) k 0 ≡ 0 = subst (λ (j : ℕ). get_or (set seat.history.account.hand target 0) j 0 ≡ 0) (sym same) (set-zero seat.history.account.hand target) in omega arith)
      (λ ne. let other = get_or-set_other seat.history.account.hand target k 0 0 ne in let before = gone k (omega arith) in omega arith)

  pub gone_already : hand_at target seat.history.account ≡ 0 → new ≡ seat → (k : ℕ) → k < target + 1 → hand_at k new.history.account ≡ 0
  gone_already none is k h =
      let hand = ap (λ (s : SeatFacts). hand_at k s.history.account) is in
      dite (ℕ_discrete k target)
      (λ same. let here = subst (λ (j : ℕ). hand_at j seat.history.account ≡ 0) (sym same) none in omega arith)
      (λ ne. let before = gone k (omega arith) in omega arith)
