-- What shooters of a crew are when it starts, and what its work is. All of it is this project's own.
use Rattle.std.specs.Prelude.{ℕ, ◌%◌, List, [], ◌∷◌, replicate}
use Rattle.flux_system.specs.System.{FluxSystem, patches}
use Rattle.flux_accounts.specs.Banks.{BankFacts, seat_at_start}
use Rattle.shooter.specs.declared.reports.PassReport.{PassReport}
use Rattle.shooter.specs.Shooters.{ShooterFacts, AreRounds}

-- the shooter of a number when its crew starts
abbrev pub shooter_at_start : BankFacts → ℕ → ShooterFacts
shooter_at_start bank number = record {
  seat = seat_at_start bank number;
  remembered = replicate (patches bank.system) 0;
  cursor = number % patches bank.system;
}

-- what a shooter reports that went no rounds
abbrev pub no_rounds : PassReport
no_rounds = record { passes = 0; won = 0; low = 0; lost = 0 }

-- each of some shooters went its rounds, from what it was to what it is, and its own report says what they came to
abbrev pub HaveGoneRounds : FluxSystem → List ShooterFacts → List PassReport → List ShooterFacts → Type 0
HaveGoneRounds s [] [] [] = Unit {0}
HaveGoneRounds s (old ∷ olds) (report ∷ reports) (new ∷ news) = AreRounds s old report new × HaveGoneRounds s olds reports news
HaveGoneRounds s _ _ _ = ⊥
