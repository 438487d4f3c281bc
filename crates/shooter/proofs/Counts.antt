-- What a turn adds to the report, and what holds where a group ends.
use Rattle.std.proofs.Common.{◌≡◌, ℕ, ◌+◌, ◌%◌, List, length, sym, ap, subst, ◌∙◌, arith}
use Rattle.flux_system.specs.System.{FluxSystem, patches}
use Rattle.flux_accounts.specs.declared.seats.Take.{Take}
use Rattle.flux_accounts.specs.declared.seats.Take.TheVariants.{Won, Low, Lost}
use Rattle.flux_accounts.specs.Banks.{BankFacts, SeatFacts, IsSeatOf, HasEmptyHand}
use Rattle.shooter.specs.declared.reports.PassReport.{PassReport}
use Rattle.shooter.specs.Rules.{group}
use Rattle.shooter.proofs.Passing.{won_of, low_of, lost_of}
use Rattle.shooter.proofs.SoFar.{PassSoFar}

-- the report has counted the answer of a take
abbrev pub HasCounted : PassReport → PassReport → Take → Type 0
HasCounted report new answer = (new.won ≡ report.won + won_of answer) × ((new.low ≡ report.low + low_of answer) × ((new.lost ≡ report.lost + lost_of answer) × (new.passes ≡ 1)))

pub counts_won : (report new : PassReport) (answer : Take) (t : ℕ) → answer ≡ Won t → new ≡ record report { won = report.won + 1 } → report.passes ≡ 1 → HasCounted report new answer
counts_won report new answer t is new_is one =
    subst (HasCounted report new) (sym is) (ap (λ (r : PassReport). r.won) new_is, (ap (λ (r : PassReport). r.low) new_is ∙ omega arith, (ap (λ (r : PassReport). r.lost) new_is ∙ omega arith, ap (λ (r : PassReport). r.passes) new_is ∙ one)))

pub counts_low : (report new : PassReport) (answer : Take) (seen : ℕ) → answer ≡ Low seen → new ≡ record report { low = report.low + 1 } → report.passes ≡ 1 → HasCounted report new answer
counts_low report new answer seen is new_is one =
    subst (HasCounted report new) (sym is) (ap (λ (r : PassReport). r.won) new_is ∙ omega arith, (ap (λ (r : PassReport). r.low) new_is, (ap (λ (r : PassReport). r.lost) new_is ∙ omega arith, ap (λ (r : PassReport). r.passes) new_is ∙ one)))

pub counts_lost : (report new : PassReport) (answer : Take) (seen found : ℕ) → answer ≡ Lost seen found → new ≡ record report { lost = report.lost + 1 } → report.passes ≡ 1 → HasCounted report new answer
counts_lost report new answer seen found is new_is one =
    subst (HasCounted report new) (sym is) (ap (λ (r : PassReport). r.won) new_is ∙ omega arith, (ap (λ (r : PassReport). r.low) new_is ∙ omega arith, (ap (λ (r : PassReport). r.lost) new_is, ap (λ (r : PassReport). r.passes) new_is ∙ one)))

-- what the loop keeps, where all was given
module _ (s : FluxSystem) (cursor : ℕ) (old : SeatFacts) (old_remembered : List ℕ) (bank : BankFacts) (place turn : ℕ) (report : PassReport) where
  pub record TurnsDone (seat : SeatFacts) (remembered : List ℕ) : Type 0 where
    pub of : IsSeatOf bank seat
    pub long : length remembered ≡ patches s
    pub done : PassSoFar s cursor old old_remembered seat remembered place turn report.won report.low report.lost
    pub passes : report.passes ≡ 1
    pub groups : turn % group ≡ 0 → HasEmptyHand seat
    pub ends : turn ≡ patches s → HasEmptyHand seat

  pub group_done : (seat : SeatFacts) (remembered : List ℕ) (new : SeatFacts) (new_remembered : List ℕ) → seat ≡ new → remembered ≡ new_remembered → IsSeatOf bank new → length new_remembered ≡ patches s
      → PassSoFar s cursor old old_remembered new new_remembered place turn report.won report.low report.lost → report.passes ≡ 1 → HasEmptyHand new → TurnsDone seat remembered
  group_done seat remembered new new_remembered seat_is remembered_is of long done passes empty =
      subst (λ (z : SeatFacts × List ℕ). TurnsDone z.0 z.1) (λ k. (sym seat_is k, sym remembered_is k)) record { of = of; long = long; done = done; passes = passes; groups = λ _. empty; ends = λ _. empty }
