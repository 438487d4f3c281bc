-- The rows of `audit`, from its plan.
use Rattle.std.proofs.Common.{◌≡◌, inl, inr, ℕ, List, Ok, Err, ap, sym, subst, ◌∙◌}
use Rattle.flux_ledger.specs.declared.ledger.Ledger.{Ledger}
use Rattle.ledger_audit.specs.declared.findings.Finding.{Finding}
use Rattle.ledger_audit.specs.declared.findings.Finding.TheVariants.{Balanced}
use Rattle.ledger_file.specs.LedgerFiles.{LedgerFile, ledger_of}
use Rattle.lux_io.specs.Shelves.{ShelfState}
use Rattle.lux_io.specs.Sinks.{Wrote, WroteSome}
use Rattle.lux_answers.specs.declared.answers.Answer.{Answer}
use Rattle.lux_answers.specs.declared.answers.Answer.TheVariants as answer
use Rattle.lux_answers.specs.declared.answers.Outcome.{Outcome}
use Rattle.lux_answers.specs.Notes.{PutsNote}
use Rattle.lux_plans.specs.Plans.{Decides, Unread, accept}
use Rattle.lux_plans.specs.Runs.{World, Runs}
use Rattle.lux_plans.specs.Writings.{Writing}
use Rattle.lux_plans.proofs.Parts.{given_parts, refused_parts, accepted_is, refused_is}
use Rattle.lux_plans.proofs.Rows.{row_of}
use Rattle.lux_top.specs.AuditCommand.{AuditRefusal, AuditRow, AuditsFiles, AuditsFilesInPart, AreAuditFiles, IsLedgerOfInput, IsSoundLedger, SaysProblem, audited, audit_plan, audit_report, audit_writing, file_audit, file_finding, input_problem, input_text, ledger_audit, ledger_unless}
use Rattle.lux_top.specs.LedgerFiles.{IsFileLedger, ledger_file, most_ledger_bytes}
use Rattle.lux_top.specs.Settlements.{no_verdict}
use Rattle.lux_top.specs.SolveCommand.{SolveRefusal}
use Rattle.lux_top.specs.SystemFiles.{Problem, problem_file, IsFileProblem, IsWithinLimits}
use Rattle.lux_top.proofs.Plain.{plain_audit}
use Rattle.lux_top.proofs.Reading.{file_says, file_refuses}
use Rattle.lux_top.proofs.SettlementRows.{IsWrittenOf, settlement_is, never_refused, solved_whole, solved_in_part}
use Rattle.lux_top.proofs.SolveRows.{problem_is, problem_reason}

-- the ledger that was found balanced is the one of the file
unless_is : (found : Finding) (ledger said : Ledger) → ledger_unless found ledger ≡ Ok said → said ≡ ledger
unless_is Balanced ledger said is = let same : said ≡ ledger = cc in same
unless_is _ ledger said is = absurd (cc)

-- so it is sound as the one that was read
sound_ledger_of : (problem : Problem) (file : LedgerFile) (said ledger : Ledger) → audited problem file ≡ Ok said → IsSoundLedger problem said ledger → (audited problem file ≡ Ok ledger) × IsSoundLedger problem file.ledger ledger
sound_ledger_of problem file said ledger found sound =
    let same = unless_is (file_finding problem file) file.ledger said found in
    (found ∙ ap Ok (sym sound.is_said), subst (λ (l : Ledger). IsSoundLedger problem l ledger) same sound)

module _ (system ledger : List ℕ) (before after : ShelfState) where
  -- what the ledger file says
  file_ledger_is : (file : LedgerFile) → Decides (ledger_file ledger) before before (Ok file) → IsFileLedger before ledger file
  file_ledger_is file h =
      let text = file_says ledger most_ledger_bytes ledger_of answer.LedgerText before before file h in
      record { text = text.0; is_file = text.1; accepted = text.2 }

  -- a problem that the system file says, and what the ledger file says
  module _ (problem : Problem) (is_said : IsFileProblem before system problem) (within_limits : IsWithinLimits problem) where
    says : SaysProblem before system
    says = record { problem = problem; is_said = is_said; within_limits = within_limits }

    unread_ledger : (refusal : Answer) → Unread ledger most_ledger_bytes before after refusal → AuditRefusal system ledger before after refusal
    unread_ledger (answer.Read file) h = inr (says, h)
    unread_ledger (answer.TooLong file) h = inr (says, h)
    unread_ledger _ h = absurd h

    found_reason : (file : LedgerFile) → IsFileLedger before ledger file → (refusal : Answer) → Decides (file_audit problem file) before after (Err refusal) → AuditRefusal system ledger before after refusal
    found_reason file is refusal h = elim (refused_parts (accept (audited problem file) answer.AuditNo) (audit_report problem) before after refusal h) [
      | inl first ↦
          let refused = refused_is (audited problem file) answer.AuditNo before after refusal first in
          rw refused.2 (record { input = record { problem = problem; file = file }; are_read = record { of_system = is_said; of_ledger = is }; within_limits = within_limits; is_found = refused.1 })
      | inr parts ↦ absurd (never_refused (audit_writing problem) before after (IsSoundLedger problem parts.0) refusal parts.2)
    ]

    ledger_reason : (refusal : Answer) → Decides (ledger_audit ledger problem) before after (Err refusal) → AuditRefusal system ledger before after refusal
    ledger_reason refusal h = elim (refused_parts (ledger_file ledger) (file_audit problem) before after refusal h) [
      | inl first ↦ elim (file_refuses ledger most_ledger_bytes ledger_of answer.LedgerText before after refusal first) [
        | inl unread ↦ unread_ledger refusal unread
        | inr text ↦ rw text.2.2 (says, (text.0, text.1, text.2.1))
      ]
      | inr parts ↦ found_reason parts.0 (file_ledger_is parts.0 parts.1) refusal parts.2
    ]

  -- a refusal of the system file
  of_system : (refusal : Answer) → SolveRefusal system before after refusal → AuditRefusal system ledger before after refusal
  of_system (answer.Read file) h = inl h
  of_system (answer.TooLong file) h = inl h
  of_system (answer.System fault) h = h
  of_system (answer.Limits fault) h = h
  of_system answer.Memory h = tt
  of_system _ h = absurd h

  reason : (refusal : Answer) → Decides (audit_plan system ledger) before after (Err refusal) → AuditRefusal system ledger before after refusal
  reason refusal h = elim (refused_parts (problem_file system) (ledger_audit ledger) before after refusal h) [
    | inl first ↦ of_system refusal (problem_reason system before after refusal first)
    | inr parts ↦
        let problem = problem_is system before before parts.0 parts.1 in
        ledger_reason parts.0 problem.0 problem.1 refusal parts.2
  ]

module _ (system ledger : List ℕ) (before after : World) where
  -- what was audited, and the text
  audits : (writing : Writing) → Decides (audit_plan system ledger) before.shelf after.shelf (Ok writing)
      → IsWrittenOf (AreAuditFiles before.shelf system ledger) input_problem IsLedgerOfInput no_verdict input_text writing
  audits writing h =
      let of_system = given_parts (problem_file system) (ledger_audit ledger) before.shelf after.shelf writing h in
      let problem = problem_is system before.shelf before.shelf of_system.0 of_system.1 in
      let of_ledger = given_parts (ledger_file ledger) (file_audit of_system.0) before.shelf after.shelf writing of_system.2 in
      let file = file_ledger_is system ledger before.shelf before.shelf of_ledger.0 of_ledger.1 in
      let of_audit = given_parts (accept (audited of_system.0 of_ledger.0) answer.AuditNo) (audit_report of_system.0) before.shelf after.shelf writing of_ledger.2 in
      let found = accepted_is (audited of_system.0 of_ledger.0) answer.AuditNo before.shelf before.shelf of_audit.0 of_audit.1 in
      let settled = settlement_is (audit_writing of_system.0) before.shelf after.shelf (IsSoundLedger of_system.0 of_audit.0) writing of_audit.2 in (
        record { problem = of_system.0; file = of_ledger.0 },
        settled.0,
        record { is_said = record { of_system = problem.0; of_ledger = file }; within_limits = problem.1; is_ledger = sound_ledger_of of_system.0 of_ledger.0 of_audit.0 settled.0 found settled.1 },
        settled.2,
      )

  completes : (writing : Writing) → Decides (audit_plan system ledger) before.shelf after.shelf (Ok writing) → Wrote before.out after.out writing.bytes → after.notes ≡ before.notes → AuditsFiles system ledger before after writing.answer
  completes writing h = solved_whole (AreAuditFiles before.shelf system ledger) input_problem IsLedgerOfInput no_verdict input_text before after writing (audits writing h)

  cuts_off : (writing : Writing) → Decides (audit_plan system ledger) before.shelf after.shelf (Ok writing) → WroteSome before.out after.out writing.bytes → PutsNote answer.Write before.notes after.notes → AuditsFilesInPart system ledger before after
  cuts_off writing h = solved_in_part (AreAuditFiles before.shelf system ledger) input_problem IsLedgerOfInput no_verdict input_text before after writing (audits writing h)

  -- the row of each answer
  pub audit_row : (outcome : Outcome) → Runs (audit_plan system ledger) before after outcome → AuditRow system ledger before after outcome.answer
  audit_row outcome runs =
      row_of (audit_plan system ledger) (AuditsFiles system ledger before after) (AuditsFilesInPart system ledger before after) (AuditRefusal system ledger before.shelf after.shelf) before after (plain_audit system ledger)
      (record { completes = completes; cuts_off = cuts_off; reasons = reason system ledger before.shelf after.shelf; memory = tt }) outcome runs
