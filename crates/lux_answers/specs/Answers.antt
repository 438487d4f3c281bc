-- The exit status and the cause of each answer. A new answer adds a line to each table.
use Rattle.std.specs.Prelude.{ℕ, List}
use Rattle.compliance.specs.Worst.{status_of_worst}
use Rattle.lux_answers.specs.declared.answers.Answer.{Answer}
use Rattle.lux_answers.specs.declared.answers.Answer.TheVariants.{Done, Usage, Read, TooLong, Project, Room, Fixture, Grid, System, LedgerText, Photometry, AuditNo, Limits, Write, Memory}
use Rattle.lux_answers.specs.declared.answers.Outcome.{Outcome}

abbrev pub status_of : Answer → ℕ
status_of (Done ledger worst) = status_of_worst worst
status_of Usage = 3
status_of (Project fault) = 4
status_of (Room fault) = 4
status_of (Fixture fault) = 4
status_of (Grid check fault) = 4
status_of (System fault) = 4
status_of (LedgerText fault) = 4
status_of (Photometry name fault) = 5
status_of (Read name) = 6
status_of (TooLong name) = 6
status_of Write = 7
status_of Memory = 8
status_of (AuditNo finding) = 9
status_of (Limits fault) = 10

-- an answer with its status
abbrev pub outcome_of : Answer → Outcome
outcome_of answer = record { status = status_of answer; answer = answer }

-- what shows that an answer may come: the success that was asked for; the words and the contents of files; a failed read of
-- a file; a read of a file that is too long; a failed write; or want of memory, which may come at any moment
pub data Cause : Type 0 where
  Success : Cause
  Contents : Cause
  FailedRead : List ℕ → Cause
  OverlongRead : List ℕ → Cause
  FailedWrite : Cause
  NoMemory : Cause

abbrev pub cause_of : Answer → Cause
cause_of (Done ledger worst) = Success
cause_of Usage = Contents
cause_of (Project fault) = Contents
cause_of (Room fault) = Contents
cause_of (Fixture fault) = Contents
cause_of (Grid check fault) = Contents
cause_of (System fault) = Contents
cause_of (LedgerText fault) = Contents
cause_of (Photometry name fault) = Contents
cause_of (Read name) = FailedRead name
cause_of (TooLong name) = OverlongRead name
cause_of Write = FailedWrite
cause_of Memory = NoMemory
cause_of (AuditNo finding) = Contents
cause_of (Limits fault) = Contents
