-- A problem that is settled, on one thread or by a crew of shooters: its ledger, and on one thread its text with the interval of each
-- patch.
use Rattle.std.specs.Prelude.{◌≡◌, ℕ, ◌+◌, ◌++◌, List, Some}
use Rattle.compliance.specs.declared.verdicts.Worst.{Worst}
use Rattle.compliance.specs.declared.verdicts.Worst.TheVariants.{AllPass}
use Rattle.enclosure.specs.Interval.{intervals_of, EnclosesAll}
use Rattle.flux_ledger.specs.Balance.{IsBalanced, IsFinished, IsPaid}
use Rattle.flux_ledger.specs.IntervalLines.{interval_lines}
use Rattle.flux_ledger.specs.LedgerText.{ledger_text}
use Rattle.flux_ledger.specs.declared.ledger.Ledger.{Ledger}
use Rattle.flux_system.specs.System.{FluxSystem}
use Rattle.lux_io.specs.Sinks.{Wrote, WroteSome}
use Rattle.shot_core.specs.Settling.{settled_ledger, untouched_ledger}
use Rattle.lux_answers.specs.declared.answers.Answer.{Answer}
use Rattle.lux_answers.specs.declared.answers.Answer.TheVariants.{Done, Write}
use Rattle.lux_answers.specs.Notes.{PutsNote}
use Rattle.lux_plans.specs.Plans.{Plan, Give, Choose}
use Rattle.lux_plans.specs.Runs.{World}
use Rattle.lux_plans.specs.Writings.{Writing}
use Rattle.lux_top.specs.SystemFiles.{Problem, IsWithinLimits}

-- a ledger of the problem: it is finished, balanced and paid for the flux system, its direct flux is the problem's, and its
-- intervals enclose every exact solution
pub record IsLedgerOf (problem : Problem) (ledger : Ledger) : Type 0 where
  pub finished : IsFinished problem.0 ledger
  pub balanced : IsBalanced problem.0 ledger
  pub paid : IsPaid problem.0 ledger
  pub same_flux : ledger.direct ≡ problem.1
  pub encloses : EnclosesAll problem.0 ledger

-- the settled ledger of the problem, which is of one account
pub record IsSettledLedger (problem : Problem) (ledger : Ledger) : Type 0 where
  pub settles : ledger ≡ settled_ledger problem.0 (untouched_ledger problem.0 problem.1)
  pub one_account : ledger.parts ≡ 1
  pub is_ledger : IsLedgerOf problem ledger

-- a ledger of the problem that so many shooters and a desk have an account of
pub record IsCrewLedger (shooters : ℕ) (problem : Problem) (ledger : Ledger) : Type 0 where
  pub accounts : ledger.parts ≡ 1 + shooters
  pub is_ledger : IsLedgerOf problem ledger

-- a ledger's text, and a line for the interval of each patch
abbrev pub ledger_with_intervals : FluxSystem → Ledger → List ℕ
ledger_with_intervals system ledger = ledger_text ledger ++ interval_lines (intervals_of system ledger)

-- what is written of a ledger of a problem
abbrev pub settled_writing : Problem → Ledger → Writing
settled_writing problem ledger = record { answer = Done (Some ledger) AllPass; bytes = ledger_with_intervals problem.0 ledger }

-- the settled ledger of a problem within the limits, and its text with its intervals
abbrev pub settlement : Problem → Plan Writing
settlement problem = Choose (IsSettledLedger problem) (λ ledger. Give (settled_writing problem ledger))

-- this ledger is of a value that is said, whose problem is within the limits, and the fact holds of it
pub record IsSolvedBy {P : Type 0} (Says : P → Type 0) (problem_of : P → Problem) (IsLedger : P → Ledger → Type 0) (value : P) (ledger : Ledger) : Type 0 where
  pub is_said : Says value
  pub within_limits : IsWithinLimits (problem_of value)
  pub is_ledger : IsLedger value ledger

-- a value that is said was solved: the answer has its ledger with its verdicts, all of its bytes were written, and no note was put
pub record IsSolved {P : Type 0} (Says : P → Type 0) (problem_of : P → Problem) (IsLedger : P → Ledger → Type 0) (worst_of : P → Ledger → Worst) (bytes_of : P → Ledger → List ℕ) (before after : World) (answered : Answer) : Type 0 where
  pub value : P
  pub ledger : Ledger
  pub solved : IsSolvedBy Says problem_of IsLedger value ledger
  pub is_answered : answered ≡ Done (Some ledger) (worst_of value ledger)
  pub wrote : Wrote before.out after.out (bytes_of value ledger)
  pub no_note : after.notes ≡ before.notes

-- it was solved, and the output had a fault and took a part of those bytes from the front
pub record IsCutOff {P : Type 0} (Says : P → Type 0) (problem_of : P → Problem) (IsLedger : P → Ledger → Type 0) (bytes_of : P → Ledger → List ℕ) (before after : World) : Type 0 where
  pub value : P
  pub ledger : Ledger
  pub solved : IsSolvedBy Says problem_of IsLedger value ledger
  pub wrote : WroteSome before.out after.out (bytes_of value ledger)
  pub noted : PutsNote Write before.notes after.notes

-- without checks there is no verdict, and so all pass
abbrev pub no_verdict : {P : Type 0} → P → Ledger → Worst
no_verdict value ledger = AllPass
