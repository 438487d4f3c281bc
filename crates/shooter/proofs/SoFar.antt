-- A pass, turn by turn: what it has done so far, and what it has done in the end.
use Rattle.std.proofs.Common.{◌≡◌, ◌⊎◌, ℕ, ◌+◌, ◌%◌, ◌<◌, List, [], ◌++◌, map, set, refl, sym, ap, subst, ◌∙◌, arith, None, append_assoc}
use Rattle.std.proofs.Math.Nat.{mod-add-mod, add-mod_right, mod-eq_of_lt}
use Rattle.std.proofs.lemmas.List.{append-nil}
use Rattle.flux_system.specs.System.{FluxSystem, patches}
use Rattle.shot_core.specs.Views.{hand_at}
use Rattle.flux_accounts.specs.declared.histories.Entry.{Entry}
use Rattle.flux_accounts.specs.declared.histories.History.{History}
use Rattle.flux_accounts.specs.declared.seats.Take.{Take}
use Rattle.flux_accounts.specs.declared.seats.Take.TheVariants.{Won, Low, Lost}
use Rattle.flux_accounts.specs.Answers.{IsTake}
use Rattle.flux_accounts.specs.Banks.{SeatFacts, HasEmptyHand}
use Rattle.shooter.specs.Moments.{Moment, at_start, after_steps}
use Rattle.shooter.specs.Rules.{IsNext, AreInPass, group}
use Rattle.shooter.specs.Shooters.{steps_of, IsPass}
use Rattle.shooter.specs.Layouts.{value_left, give_step, IsGiving}
use Rattle.shooter.proofs.Giving.{after_steps-append}
use Rattle.shooter.proofs.Passing.{won_of, low_of, lost_of, after_answer-is, take_in_pass, gives_in_pass, in_pass-append}

-- what a take adds to a history
module _ (threshold i : ℕ) (h : History) where
  pub log_of : (answer : Take) (new : History) → IsTake threshold h i answer new → new.log ≡ h.log ++ steps_of i answer
  log_of (Won t) new is = ap (λ (x : History). x.log) is.1 ∙ append_assoc h.log _ _
  log_of (Low seen) new is = ap (λ (x : History). x.log) is.1
  log_of (Lost seen found) new is = ap (λ (x : History). x.log) is.1.1 ∙ append_assoc h.log _ _

  pub looks_of : (answer : Take) (new : History) → IsTake threshold h i answer new → new.looks ≡ h.looks + 1
  looks_of (Won t) new is = ap (λ (x : History). x.looks) is.1
  looks_of (Low seen) new is = ap (λ (x : History). x.looks) is.1
  looks_of (Lost seen found) new is = ap (λ (x : History). x.looks) is.1.1

  pub lost_takes_of : (answer : Take) (new : History) → IsTake threshold h i answer new → new.lost ≡ h.lost + lost_of answer
  lost_takes_of (Won t) new is = ap (λ (x : History). x.lost) is.1 ∙ omega arith
  lost_takes_of (Low seen) new is = ap (λ (x : History). x.lost) is.1 ∙ omega arith
  lost_takes_of (Lost seen found) new is = ap (λ (x : History). x.lost) is.1.1

  pub wins_of : (answer : Take) (new : History) → IsTake threshold h i answer new → new.account.wins ≡ h.account.wins + won_of answer
  wins_of (Won t) new is = ap (λ (x : History). x.account.wins) is.1
  wins_of (Low seen) new is = ap (λ (x : History). x.account.wins) is.1 ∙ omega arith
  wins_of (Lost seen found) new is = ap (λ (x : History). x.account.wins) is.1.1 ∙ omega arith

module _ (s : FluxSystem) (cursor : ℕ) (old : SeatFacts) (old_remembered : List ℕ) where
  abbrev first : Moment
  first = at_start old_remembered old.history.account

  -- so many turns of a pass are done
  pub record PassSoFar (seat : SeatFacts) (remembered : List ℕ) (place turn won low lost : ℕ) : Type 0 where
    pub steps : List Entry
    pub log : seat.history.log ≡ old.history.log ++ steps
    pub rules : AreInPass s cursor first steps
    pub moment : after_steps s.threshold first steps ≡ record { remembered = remembered; looks = turn; low = low; won = won; lost = lost; account = seat.history.account; due = None }
    pub looks : seat.history.looks ≡ old.history.looks + turn
    pub lost_takes : seat.history.lost ≡ old.history.lost + lost
    pub wins : seat.history.account.wins ≡ old.history.account.wins + won
    pub total : won + low + lost ≡ turn
    pub at_cursor : place ≡ (cursor + turn) % patches s
    pub number : seat.number ≡ old.number
    pub table : seat.table ≡ old.table

  pub no_turns : cursor < patches s → PassSoFar old old_remembered cursor 0 0 0 0
  no_turns inside = record {
    steps = [];
    log = sym (append-nil old.history.log);
    rules = refl;
    moment = refl;
    looks = omega arith;
    lost_takes = omega arith;
    wins = omega arith;
    total = refl;
    at_cursor = sym (ap (λ (x : ℕ). x % patches s) (omega arith) ∙ mod-eq_of_lt inside);
    number = refl;
    table = refl;
  }

  module _ (seat : SeatFacts) (remembered : List ℕ) (place turn won low lost : ℕ) (before : PassSoFar seat remembered place turn won low lost) where
    -- the moment now
    abbrev pub now : Moment
    now = record { remembered = remembered; looks = turn; low = low; won = won; lost = lost; account = seat.history.account; due = None }

    -- a turn more
    pub one_turn : (i : ℕ) (answer : Take) (new : SeatFacts) → IsTake s.threshold seat.history i answer new.history → turn < patches s → i < patches s → IsNext s cursor now i → (turn % group ≡ 0 → (j : ℕ) → j < patches s → hand_at j seat.history.account ≡ 0)
        → new.number ≡ seat.number → new.table ≡ seat.table
        → PassSoFar new (set remembered i (value_left answer)) ((place + 1) % patches s) (turn + 1) (won + won_of answer) (low + low_of answer) (lost + lost_of answer)
    one_turn i answer new is fewer inside next empty number table =
        let was = before.moment in
        let total = before.total in
        record {
          steps = before.steps ++ steps_of i answer;
          log = log_of s.threshold i seat.history answer new.history is ∙ (ap (λ (es : List Entry). es ++ steps_of i answer) before.log ∙ append_assoc old.history.log before.steps (steps_of i answer));
          rules = in_pass-append s cursor before.steps (steps_of i answer) first before.rules
              (subst (λ (m : Moment). AreInPass s cursor m (steps_of i answer)) (sym was) (take_in_pass s cursor now i refl fewer inside next empty answer seat.history new.history is));
          moment = after_steps-append s.threshold first before.steps (steps_of i answer)
              ∙ (ap (λ (m : Moment). after_steps s.threshold m (steps_of i answer)) was ∙ after_answer-is s.threshold now i seat.history refl answer new.history is);
          looks = let more = looks_of s.threshold i seat.history answer new.history is in let had = before.looks in omega arith;
          lost_takes = let more = lost_takes_of s.threshold i seat.history answer new.history is in let had = before.lost_takes in omega arith;
          wins = let more = wins_of s.threshold i seat.history answer new.history is in let had = before.wins in omega arith;
          total = one answer;
          at_cursor = ap (λ (x : ℕ). (x + 1) % patches s) before.at_cursor ∙ (mod-add-mod (cursor + turn) (patches s) 1 ∙ ap (λ (x : ℕ). x % patches s) (omega arith));
          number = number ∙ before.number;
          table = table ∙ before.table;
        }
      where
        one : (r : Take) → (won + won_of r) + (low + low_of r) + (lost + lost_of r) ≡ turn + 1
        one (Won t) = let total = before.total in omega arith
        one (Low seen) = let total = before.total in omega arith
        one (Lost seen found) = let total = before.total in omega arith

    -- gives after it
    pub then_gives : (new : SeatFacts) (new_remembered : List ℕ) → IsGiving (patches s) s.threshold seat remembered new new_remembered → (turn % group ≡ 0) ⊎ (turn ≡ patches s) → PassSoFar new new_remembered place turn won low lost
    then_gives new new_remembered is done =
        let more : List Entry = map give_step is.gives in
        let was = before.moment in
        record {
          steps = before.steps ++ more;
          log = is.log ∙ (ap (λ (es : List Entry). es ++ more) before.log ∙ append_assoc old.history.log before.steps more);
          rules = in_pass-append s cursor before.steps more first before.rules (subst (λ (m : Moment). AreInPass s cursor m more) (sym was) (gives_in_pass s cursor is.gives now is.inside refl done));
          moment = after_steps-append s.threshold first before.steps more ∙ (ap (λ (m : Moment). after_steps s.threshold m more) was ∙ is.moments now refl refl refl);
          looks = is.looks ∙ before.looks;
          lost_takes = is.lost ∙ before.lost_takes;
          wins = is.wins ∙ before.wins;
          total = before.total;
          at_cursor = before.at_cursor;
          number = is.number ∙ before.number;
          table = is.table ∙ before.table;
        }

  -- all turns are done
  pub whole_pass : cursor < patches s → (seat : SeatFacts) (remembered : List ℕ) (place won low lost : ℕ) → PassSoFar seat remembered place (patches s) won low lost → HasEmptyHand seat
      → IsPass s (record { seat = old; remembered = old_remembered; cursor = cursor }) (record { passes = 1; won = won; low = low; lost = lost }) (record { seat = seat; remembered = remembered; cursor = cursor })
  whole_pass inside seat remembered place won low lost done empty =
      let m = sym done.moment in
      let looks = ap (λ (x : Moment). x.looks) m in
      record {
        steps = done.steps;
        adds = record {
          log = done.log;
          remembered = ap (λ (x : Moment). x.remembered) m;
          account = ap (λ (x : Moment). x.account) m;
          looks = let had = done.looks in omega arith;
          lost = let had = done.lost_takes in let same = ap (λ (x : Moment). x.lost) m in omega arith;
          wins = let had = done.wins in let same = ap (λ (x : Moment). x.won) m in omega arith;
          table = done.table;
          number = done.number;
          empty = empty;
        };
        rules = done.rules;
        all = sym looks;
        cursor = sym (add-mod_right cursor (patches s) ∙ mod-eq_of_lt inside);
        passes = refl;
        won = ap (λ (x : Moment). x.won) m;
        low = ap (λ (x : Moment). x.low) m;
        lost = ap (λ (x : Moment). x.lost) m;
        total = done.total;
      }
