-- A shot, from its take and its gives.
use Rattle.std.proofs.Common.{◌≡◌, ℕ, ◌<◌, List, [], ◌∷◌, ◌++◌, All, map, set, refl, sym, ap, ◌∙◌, arith, append_assoc}
use Rattle.std.proofs.lemmas.List.Elements.{All-nil, All-cons, All-head, All-tail}
use Rattle.flux_system.specs.System.{FluxSystem, patches}
use Rattle.flux_accounts.specs.declared.histories.Entry.{Entry}
use Rattle.flux_accounts.specs.declared.histories.Kind.TheVariants.{Give}
use Rattle.flux_accounts.specs.declared.histories.History.{History}
use Rattle.flux_accounts.specs.declared.seats.Take.{Take}
use Rattle.flux_accounts.specs.declared.seats.Take.TheVariants.{Won, Low, Lost}
use Rattle.flux_accounts.specs.Answers.{IsTake}
use Rattle.flux_accounts.specs.Banks.{SeatFacts, HasEmptyHand}
use Rattle.shooter.specs.Moments.{Moment, Sighting, at_start, after_steps}
use Rattle.shooter.specs.Shooters.{steps_of, IsAnswer, IsShot}
use Rattle.shooter.specs.Layouts.{value_left, give_step, IsGiving}
use Rattle.shooter.proofs.Giving.{after_steps-append}
use Rattle.shooter.proofs.Passing.{after_answer, after_answer-is}
use Rattle.shooter.proofs.SoFar.{log_of, looks_of, lost_takes_of, wins_of}

module _ (n : ℕ) where
  -- a give of one of the patches
  abbrev IsGiveBelow : Entry → Type 0
  IsGiveBelow step = (step.kind ≡ Give) × (step.patch < n)

  gives_alone : (gives : List Sighting) → All (λ (g : Sighting). g.patch < n) gives → All IsGiveBelow (map give_step gives)
  gives_alone [] inside = All-nil IsGiveBelow
  gives_alone (g ∷ gives) inside = All-cons IsGiveBelow (give_step g) (map give_step gives) (refl, All-head (λ (x : Sighting). x.patch < n) g gives inside) (gives_alone gives (All-tail (λ (x : Sighting). x.patch < n) g gives inside))

answer_of : (threshold i : ℕ) (h : History) (answer : Take) (new : History) → IsTake threshold h i answer new → IsAnswer threshold answer
answer_of threshold i h (Won t) new is = is.0
answer_of threshold i h (Low seen) new is = is.0
answer_of threshold i h (Lost seen found) new is = (is.0, is.1.0)

pub whole_shot : (s : FluxSystem) (i cursor : ℕ) (old : SeatFacts) (old_remembered : List ℕ) (answer : Take) (middle : SeatFacts) (remembered : List ℕ) (new : SeatFacts) (new_remembered : List ℕ) → IsTake s.threshold old.history i answer middle.history
    → remembered ≡ set old_remembered i (value_left answer) → middle.number ≡ old.number → middle.table ≡ old.table → IsGiving (patches s) s.threshold middle remembered new new_remembered → HasEmptyHand new
    → IsShot s i (record { seat = old; remembered = old_remembered; cursor = cursor }) answer (record { seat = new; remembered = new_remembered; cursor = cursor })
whole_shot s i cursor old old_remembered answer middle remembered new new_remembered is remembered_is number table gave empty =
    let first : Moment = at_start old_remembered old.history.account in
    let gives : List Entry = map give_step gave.gives in
    let now : Moment = after_answer first i answer middle.history.account in
    let moment : after_steps s.threshold first (steps_of i answer ++ gives) ≡ record now { remembered = new_remembered; account = new.history.account } =
    after_steps-append s.threshold first (steps_of i answer) gives ∙ (ap (λ (m : Moment). after_steps s.threshold m gives) (after_answer-is s.threshold first i old.history refl answer middle.history is) ∙ gave.moments now (sym remembered_is) refl refl) in
    let m = sym moment in
    record {
      gives = gives;
      adds = record {
        log = gave.log ∙ (ap (λ (es : List Entry). es ++ gives) (log_of s.threshold i old.history answer middle.history is) ∙ append_assoc old.history.log (steps_of i answer) gives);
        remembered = ap (λ (x : Moment). x.remembered) m;
        account = ap (λ (x : Moment). x.account) m;
        looks = let one = looks_of s.threshold i old.history answer middle.history is in let same = gave.looks in let all = ap (λ (x : Moment). x.looks) m in omega arith;
        lost = let one = lost_takes_of s.threshold i old.history answer middle.history is in let same = gave.lost in let all = ap (λ (x : Moment). x.lost) m in omega arith;
        wins = let one = wins_of s.threshold i old.history answer middle.history is in let same = gave.wins in let all = ap (λ (x : Moment). x.won) m in omega arith;
        table = gave.table ∙ table;
        number = gave.number ∙ number;
        empty = empty;
      };
      take = answer_of s.threshold i old.history answer middle.history is;
      alone = gives_alone (patches s) gave.gives gave.inside;
      cursor = refl;
    }
