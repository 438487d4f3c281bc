-- `audit SYSTEM LEDGER`: a system text and a ledger text are read, and the ledger is found to be one of the system's problem, with the
-- intervals that it has, or not. Nothing is assumed of who made it.
use Rattle.std.specs.Prelude.{◌≡◌, ◌⊎◌, ℕ, ◌++◌, List, codes, Option, Some, None, Result, Ok, Err}
use Rattle.compliance.specs.declared.verdicts.Worst.TheVariants.{AllPass}
use Rattle.enclosure.specs.Interval.{intervals_of, EnclosesAll}
use Rattle.flux_ledger.specs.Balance.{IsBalanced, IsFinished}
use Rattle.flux_ledger.specs.IntervalLines.{interval_lines}
use Rattle.flux_ledger.specs.declared.ledger.Ledger.{Ledger}
use Rattle.flux_system.specs.System.{FluxSystem}
use Rattle.ledger_audit.specs.Findings.{finding_of, bounds_finding}
use Rattle.ledger_audit.specs.declared.findings.Finding.{Finding}
use Rattle.ledger_audit.specs.declared.findings.Finding.TheVariants.{Balanced}
use Rattle.ledger_file.specs.LedgerFiles.{LedgerFile, ledger_of}
use Rattle.lux_io.specs.Shelves.{ShelfState, IsFile}
use Rattle.lux_answers.specs.declared.answers.Answer.{Answer}
use Rattle.lux_answers.specs.declared.answers.Answer.TheVariants as answer
use Rattle.lux_plans.specs.Plans.{Plan, Give, Choose, Unread, accept, and_then}
use Rattle.lux_plans.specs.Runs.{World, Row}
use Rattle.lux_plans.specs.Writings.{Writing}
use Rattle.lux_top.specs.LedgerFiles.{ledger_file, most_ledger_bytes, IsFileLedger}
use Rattle.lux_top.specs.Settlements.{IsSolved, IsCutOff, no_verdict}
use Rattle.lux_top.specs.SolveCommand.{SolveRefusal}
use Rattle.lux_top.specs.SystemFiles.{Problem, problem_file, most_system_bytes, IsFileProblem, IsWithinLimits}

-- what the two files say
pub record AuditInput : Type 0 where
  pub problem : Problem
  pub file : LedgerFile

-- what is found of the intervals of a ledger, where it has some
abbrev pub intervals_finding : FluxSystem → Ledger → Option (List (ℕ × ℕ)) → Finding
intervals_finding system ledger None = Balanced
intervals_finding system ledger (Some given) = bounds_finding system ledger given

-- the first of two findings, and where that is that all balances, the second
abbrev pub where_balanced : Finding → Finding → Finding
where_balanced Balanced next = next
where_balanced found next = found

-- what is found: of the ledger, and where that is balanced, of its intervals
abbrev pub file_finding : Problem → LedgerFile → Finding
file_finding problem file = where_balanced (finding_of problem.0 problem.1 file.ledger) (intervals_finding problem.0 file.ledger file.intervals)

-- a ledger, unless something else was found than that it is balanced
abbrev pub ledger_unless : Finding → Ledger → Result Ledger Finding
ledger_unless Balanced ledger = Ok ledger
ledger_unless found ledger = Err found

-- the ledger of the file, or what was found
abbrev pub audited : Problem → LedgerFile → Result Ledger Finding
audited problem file = ledger_unless (file_finding problem file) file.ledger

-- What a ledger is worth that was found balanced: it is the one that was read, it is finished and balanced for the flux system,
-- its direct flux is the problem's, and its intervals enclose every exact solution.
pub record IsSoundLedger (problem : Problem) (said ledger : Ledger) : Type 0 where
  pub is_said : ledger ≡ said
  pub finished : IsFinished problem.0 ledger
  pub balanced : IsBalanced problem.0 ledger
  pub same_flux : ledger.direct ≡ problem.1
  pub encloses : EnclosesAll problem.0 ledger

-- that it is balanced, and a line for the interval of each patch
abbrev pub audit_text : Problem → Ledger → List ℕ
audit_text problem ledger = codes "balanced\n" ++ interval_lines (intervals_of problem.0 ledger)

-- what is written of a ledger
abbrev pub audit_writing : Problem → Ledger → Writing
audit_writing problem ledger = record { answer = answer.Done (Some ledger) AllPass; bytes = audit_text problem ledger }

-- the ledger that was read, with what it is worth, and its text
abbrev pub audit_report : Problem → Ledger → Plan Writing
audit_report problem said = Choose (IsSoundLedger problem said) (λ ledger. Give (audit_writing problem ledger))

-- the audit of what a ledger file says, for a problem within the limits
abbrev pub file_audit : Problem → LedgerFile → Plan Writing
file_audit problem file = and_then (accept (audited problem file) answer.AuditNo) (audit_report problem)

-- the ledger file is read, and audited
abbrev pub ledger_audit : List ℕ → Problem → Plan Writing
ledger_audit name problem = and_then (ledger_file name) (file_audit problem)

-- what it reads, and what it then writes: the system file first
abbrev pub audit_plan : List ℕ → List ℕ → Plan Writing
audit_plan system ledger = and_then (problem_file system) (ledger_audit ledger)

-- the system file says a problem within the limits
pub record SaysProblem (shelf : ShelfState) (system : List ℕ) : Type 0 where
  pub problem : Problem
  pub is_said : IsFileProblem shelf system problem
  pub within_limits : IsWithinLimits problem

-- both files are accepted: they say this
pub record AreAuditFiles (shelf : ShelfState) (system ledger : List ℕ) (input : AuditInput) : Type 0 where
  pub of_system : IsFileProblem shelf system input.problem
  pub of_ledger : IsFileLedger shelf ledger input.file

-- both files are accepted, the problem is within the limits, and this was found, which is not that all balances
pub record IsFound (shelf : ShelfState) (system ledger : List ℕ) (found : Finding) : Type 0 where
  pub input : AuditInput
  pub are_read : AreAuditFiles shelf system ledger input
  pub within_limits : IsWithinLimits input.problem
  pub is_found : audited input.problem input.file ≡ Err found

-- why two files are refused. Of the system file: this read failed, or found too many bytes; it has no system text, with its first
-- fault; or what it says is past a limit. Of the ledger file, where the system's problem is accepted: this read failed, or found too
-- many bytes; it has no ledger text, with its first fault; or this was found of its ledger. Want of memory needs no reason, and no
-- other answer refuses.
abbrev pub AuditRefusal : List ℕ → List ℕ → ShelfState → ShelfState → Answer → Type 0
AuditRefusal system ledger before after (answer.Read file) =
    Unread system most_system_bytes before after (answer.Read file) ⊎ (SaysProblem before system × Unread ledger most_ledger_bytes before after (answer.Read file))
AuditRefusal system ledger before after (answer.TooLong file) =
    Unread system most_system_bytes before after (answer.TooLong file) ⊎ (SaysProblem before system × Unread ledger most_ledger_bytes before after (answer.TooLong file))
AuditRefusal system ledger before after (answer.System fault) = SolveRefusal system before after (answer.System fault)
AuditRefusal system ledger before after (answer.Limits fault) = SolveRefusal system before after (answer.Limits fault)
AuditRefusal system ledger before after (answer.LedgerText fault) = SaysProblem before system × ((text : List ℕ) × IsFile before ledger most_ledger_bytes text × (ledger_of text ≡ Err fault))
AuditRefusal system ledger before after (answer.AuditNo found) = IsFound before system ledger found
AuditRefusal system ledger before after answer.Memory = Unit {0}
AuditRefusal system ledger before after _ = ⊥

-- the problem that is said, the ledger that was found to be one of it, and the text of the audit
abbrev pub input_problem : AuditInput → Problem
input_problem input = input.problem

abbrev pub IsLedgerOfInput : AuditInput → Ledger → Type 0
IsLedgerOfInput input ledger = (audited input.problem input.file ≡ Ok ledger) × IsSoundLedger input.problem input.file.ledger ledger

abbrev pub input_text : AuditInput → Ledger → List ℕ
input_text input ledger = audit_text input.problem ledger

-- the ledger file has a ledger of the system file's problem, and all or a part of the text was written
abbrev pub AuditsFiles : List ℕ → List ℕ → World → World → Answer → Type 0
AuditsFiles system ledger before after = IsSolved (AreAuditFiles before.shelf system ledger) input_problem IsLedgerOfInput no_verdict input_text before after

abbrev pub AuditsFilesInPart : List ℕ → List ℕ → World → World → Type 0
AuditsFilesInPart system ledger before after = IsCutOff (AreAuditFiles before.shelf system ledger) input_problem IsLedgerOfInput input_text before after

-- when each answer comes
abbrev pub AuditRow : List ℕ → List ℕ → World → World → Answer → Type 0
AuditRow system ledger before after =
    Row (AuditsFiles system ledger before after) (AuditsFilesInPart system ledger before after) (AuditRefusal system ledger before.shelf after.shelf) before after
