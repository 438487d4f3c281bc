-- A shooter as contracts see it, and what its calls do.
use Rattle.std.specs.Prelude.{◌≡◌, ◌≢◌, ℕ, ◌+◌, ◌*◌, ◌%◌, ◌<◌, ◌≤◌, ◌⊎◌, List, [], ◌∷◌, ◌++◌, All, length, sum_by}
use Rattle.flux_system.specs.System.{FluxSystem, patches}
use Rattle.flux_accounts.specs.declared.histories.Entry.{Entry}
use Rattle.flux_accounts.specs.declared.histories.Kind.TheVariants.{Look, Won, Lost, Give}
use Rattle.flux_accounts.specs.declared.seats.Take.{Take}
use Rattle.flux_accounts.specs.declared.seats.Take.TheVariants as take
use Rattle.flux_accounts.specs.Banks.{SeatFacts, HasEmptyHand}
use Rattle.shooter.specs.declared.reports.PassReport.{PassReport}
use Rattle.shooter.specs.Moments.{Moment, at_start, after_steps}
use Rattle.shooter.specs.Rules.{AreInPass}

-- its seat, a value for each patch that it remembers, and the cursor
pub record ShooterFacts : Type 0 where
  pub seat : SeatFacts
  pub remembered : List ℕ
  pub cursor : ℕ

-- the moment at which a call begins
abbrev pub opening : ShooterFacts → Moment
opening shooter = at_start shooter.remembered shooter.seat.history.account

-- the moment after some steps of a call
abbrev pub moment_after : FluxSystem → ShooterFacts → List Entry → Moment
moment_after s shooter steps = after_steps s.threshold (opening shooter) steps

-- a call added these steps to its seat's log, and the shooter has and remembers what they say
pub record Adds (s : FluxSystem) (old : ShooterFacts) (steps : List Entry) (new : ShooterFacts) : Type 0 where
  pub log : new.seat.history.log ≡ old.seat.history.log ++ steps
  pub remembered : new.remembered ≡ (moment_after s old steps).remembered
  pub account : new.seat.history.account ≡ (moment_after s old steps).account
  pub looks : new.seat.history.looks ≡ old.seat.history.looks + (moment_after s old steps).looks
  pub lost : new.seat.history.lost ≡ old.seat.history.lost + (moment_after s old steps).lost
  pub wins : new.seat.history.account.wins ≡ old.seat.history.account.wins + (moment_after s old steps).won
  pub table : new.seat.table ≡ old.seat.table
  pub number : new.seat.number ≡ old.seat.number
  pub empty : HasEmptyHand new.seat

-- the steps of a take of patch i
abbrev pub steps_of : ℕ → Take → List Entry
steps_of i (take.Won t) = record { kind = Look; patch = i; value = t } ∷ record { kind = Won; patch = i; value = 0 } ∷ []
steps_of i (take.Low seen) = record { kind = Look; patch = i; value = seen } ∷ []
steps_of i (take.Lost seen found) = record { kind = Look; patch = i; value = seen } ∷ record { kind = Lost; patch = i; value = found } ∷ []

-- what each answer of a take says of the values that it learnt
abbrev pub IsAnswer : ℕ → Take → Type 0
IsAnswer threshold (take.Won t) = threshold ≤ t
IsAnswer threshold (take.Low seen) = seen < threshold
IsAnswer threshold (take.Lost seen found) = (threshold ≤ seen) × (found ≢ seen)

-- a shot of patch i: its take, and then gives alone
pub record IsShot (s : FluxSystem) (i : ℕ) (old : ShooterFacts) (answer : Take) (new : ShooterFacts) : Type 0 where
  pub gives : List Entry
  pub adds : Adds s old (steps_of i answer ++ gives) new
  pub take : IsAnswer s.threshold answer
  pub alone : All (λ step. (step.kind ≡ Give) × (step.patch < patches s)) gives
  pub cursor : new.cursor ≡ old.cursor

-- a pass: as many looks as patches, by the rules
pub record IsPass (s : FluxSystem) (old : ShooterFacts) (answer : PassReport) (new : ShooterFacts) : Type 0 where
  pub steps : List Entry
  pub adds : Adds s old steps new
  pub rules : AreInPass s old.cursor (opening old) steps
  pub all : (moment_after s old steps).looks ≡ patches s
  pub cursor : new.cursor ≡ (old.cursor + patches s) % patches s
  pub passes : answer.passes ≡ 1
  pub won : answer.won ≡ (moment_after s old steps).won
  pub low : answer.low ≡ (moment_after s old steps).low
  pub lost : answer.lost ≡ (moment_after s old steps).lost
  pub total : answer.won + answer.low + answer.lost ≡ patches s

-- passes one after another, each with its report
abbrev pub ArePasses : FluxSystem → ShooterFacts → List PassReport → ShooterFacts → Type 0
ArePasses s old [] new = new ≡ old
ArePasses s old (answer ∷ answers) new = (between : ShooterFacts) × (IsPass s old answer between × ArePasses s between answers new)

-- the most passes of a call
abbrev pub most_passes : ℕ
most_passes = 1000

-- passes until the first that wins nothing, or as many as a call makes at most; the answer has the sums of their reports
pub record AreRounds (s : FluxSystem) (old : ShooterFacts) (answer : PassReport) (new : ShooterFacts) : Type 0 where
  -- all but the last, each of which won something
  pub before : List PassReport
  pub last : PassReport
  pub each : ArePasses s old (before ++ last ∷ []) new
  pub winners : All (λ report. 0 < report.won) before
  pub ends : (last.won ≡ 0) ⊎ (answer.passes ≡ most_passes)
  pub passes : answer.passes ≡ length before + 1
  pub few : answer.passes ≤ most_passes
  pub won : answer.won ≡ sum_by (λ (report : PassReport). report.won) (before ++ last ∷ [])
  pub low : answer.low ≡ sum_by (λ (report : PassReport). report.low) (before ++ last ∷ [])
  pub lost : answer.lost ≡ sum_by (λ (report : PassReport). report.lost) (before ++ last ∷ [])
  pub total : answer.won + answer.low + answer.lost ≡ answer.passes * patches s
  -- the seat grew by as much
  pub seat_looks : new.seat.history.looks ≡ old.seat.history.looks + answer.passes * patches s
  pub seat_wins : new.seat.history.account.wins ≡ old.seat.history.account.wins + answer.won
  pub seat_lost : new.seat.history.lost ≡ old.seat.history.lost + answer.lost
  pub number : new.seat.number ≡ old.seat.number
