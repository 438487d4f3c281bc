-- The rows of `solve`, from its plan.
use Rattle.std.proofs.Common.{◌≡◌, inl, inr, ℕ, List, sym, subst, Ok, Err}
use Rattle.duties.specs.Duties.{first}
use Rattle.duties.proofs.Orders.{judged_is, judged_refuses}
use Rattle.flux_system.specs.Limits.{limit_duties}
use Rattle.lux_io.specs.Shelves.{ShelfState}
use Rattle.lux_io.specs.Sinks.{Wrote, WroteSome}
use Rattle.system_file.specs.SystemText.{system_of}
use Rattle.lux_answers.specs.declared.answers.Answer.{Answer}
use Rattle.lux_answers.specs.declared.answers.Answer.TheVariants.{Read, TooLong, System, Limits, Write}
use Rattle.lux_answers.specs.declared.answers.Outcome.{Outcome}
use Rattle.lux_answers.specs.Notes.{PutsNote}
use Rattle.lux_plans.specs.Plans.{Decides, Unread}
use Rattle.lux_plans.specs.Runs.{World, Runs}
use Rattle.lux_plans.specs.Writings.{Writing}
use Rattle.lux_plans.proofs.Parts.{given_parts, refused_parts, accepted_is, refused_is}
use Rattle.lux_plans.proofs.Rows.{row_of}
use Rattle.lux_top.specs.Settlements.{IsSettledLedger, no_verdict, settlement, settled_writing}
use Rattle.lux_top.specs.SolveCommand.{problem_itself, problem_text, solve_plan, SolveRefusal, SolveRow, SolvesFile, SolvesFileInPart}
use Rattle.lux_top.specs.SystemFiles.{Problem, most_system_bytes, problem_in_limits, within_limits, system_file, problem_file, IsFileProblem, IsWithinLimits}
use Rattle.lux_top.proofs.Plain.{plain_solve}
use Rattle.lux_top.proofs.Reading.{file_says, file_refuses}
use Rattle.lux_top.proofs.SettlementRows.{IsWrittenOf, settlement_is, never_refused, solved_whole, solved_in_part}

module _ (name : List ℕ) (before after : ShelfState) where
  is_file_problem : (problem : Problem) → Decides (system_file name) before before (Ok problem) → IsFileProblem before name problem
  is_file_problem problem h =
      let text = file_says name most_system_bytes system_of System before before problem h in
      record { text = text.0; is_file = text.1; accepted = text.2 }

  -- the problem of the file, within the limits
  pub problem_is : (problem : Problem) → Decides (problem_file name) before before (Ok problem) → IsFileProblem before name problem × IsWithinLimits problem
  problem_is problem h =
      let parts = given_parts (system_file name) within_limits before before problem h in
      limited_is parts.0 (is_file_problem parts.0 parts.1) (accepted_is (problem_in_limits parts.0) Limits before before problem parts.2)
    where
      limited_is : (said : Problem) → IsFileProblem before name said → problem_in_limits said ≡ Ok problem → IsFileProblem before name problem × IsWithinLimits problem
      limited_is said is found =
          let judged = judged_is (limit_duties said.0 said.1) said problem found in
          (subst (λ (p : Problem). IsFileProblem before name p) (sym judged.0) is, subst (λ (p : Problem). IsWithinLimits p) (sym judged.0) judged.1)

  unread_refusal : (answer : Answer) → Unread name most_system_bytes before after answer → SolveRefusal name before after answer
  unread_refusal (Read file) h = h
  unread_refusal (TooLong file) h = h
  unread_refusal _ h = absurd h

  -- why a system file is refused
  pub problem_reason : (answer : Answer) → Decides (problem_file name) before after (Err answer) → SolveRefusal name before after answer
  problem_reason answer h = elim (refused_parts (system_file name) within_limits before after answer h) [
    | inl of_file ↦ elim (file_refuses name most_system_bytes system_of System before after answer of_file) [
      | inl unread ↦ unread_refusal answer unread
      | inr text ↦ rw text.2.2 (text.0, text.1, text.2.1)
    ]
    | inr parts ↦
        let refused = refused_is (problem_in_limits parts.0) Limits before after answer parts.2 in
        rw refused.2 (
          parts.0,
          is_file_problem parts.0 parts.1,
          judged_refuses (limit_duties parts.0.0 parts.0.1) parts.0 refused.0 refused.1,
        )
  ]

  reason : (answer : Answer) → Decides (solve_plan name) before after (Err answer) → SolveRefusal name before after answer
  reason answer h = elim (refused_parts (problem_file name) settlement before after answer h) [
    | inl first ↦ problem_reason answer first
    | inr parts ↦ absurd (never_refused (settled_writing parts.0) before after (IsSettledLedger parts.0) answer parts.2)
  ]

module _ (name : List ℕ) (before after : World) where
  -- what was solved, and its text
  solved : (writing : Writing) → Decides (solve_plan name) before.shelf after.shelf (Ok writing)
      → IsWrittenOf (IsFileProblem before.shelf name) problem_itself IsSettledLedger no_verdict problem_text writing
  solved writing h =
      let parts = given_parts (problem_file name) settlement before.shelf after.shelf writing h in
      let problem = problem_is name before.shelf before.shelf parts.0 parts.1 in
      let settled = settlement_is (settled_writing parts.0) before.shelf after.shelf (IsSettledLedger parts.0) writing parts.2 in
      (parts.0, settled.0, record { is_said = problem.0; within_limits = problem.1; is_ledger = settled.1 }, settled.2)

  completes : (writing : Writing) → Decides (solve_plan name) before.shelf after.shelf (Ok writing) → Wrote before.out after.out writing.bytes → after.notes ≡ before.notes → SolvesFile name before after writing.answer
  completes writing h = solved_whole (IsFileProblem before.shelf name) problem_itself IsSettledLedger no_verdict problem_text before after writing (solved writing h)

  cuts_off : (writing : Writing) → Decides (solve_plan name) before.shelf after.shelf (Ok writing) → WroteSome before.out after.out writing.bytes → PutsNote Write before.notes after.notes → SolvesFileInPart name before after
  cuts_off writing h = solved_in_part (IsFileProblem before.shelf name) problem_itself IsSettledLedger no_verdict problem_text before after writing (solved writing h)

  -- the row of each answer
  pub solve_row : (outcome : Outcome) → Runs (solve_plan name) before after outcome → SolveRow name before after outcome.answer
  solve_row outcome runs =
      row_of (solve_plan name) (SolvesFile name before after) (SolvesFileInPart name before after) (SolveRefusal name before.shelf after.shelf) before after (plain_solve name)
      (record { completes = completes; cuts_off = cuts_off; reasons = reason name before.shelf after.shelf; memory = tt }) outcome runs
