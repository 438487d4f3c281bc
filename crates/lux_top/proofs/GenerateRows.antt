-- The rows of `gen`, from its plan.
use Rattle.std.proofs.Common.{◌≡◌, inl, inr, ℕ, sym, subst, Ok, Err}
use Rattle.lit_room.specs.LitRooms.{Lighting, lit_room_of}
use Rattle.lit_room.specs.declared.faults.LightFault.{LightFault}
use Rattle.lit_room.specs.declared.faults.LightFault.TheVariants as light
use Rattle.lit_room.proofs.Lighting.{within_limits, lit_room_itself}
use Rattle.lux_io.specs.Shelves.{ShelfState}
use Rattle.lux_io.specs.Sinks.{Wrote, WroteSome}
use Rattle.lux_answers.specs.declared.answers.Answer.{Answer}
use Rattle.lux_answers.specs.declared.answers.Answer.TheVariants as answer
use Rattle.lux_answers.specs.declared.answers.Outcome.{Outcome}
use Rattle.lux_answers.specs.Notes.{PutsNote}
use Rattle.lux_plans.specs.Plans.{Decides}
use Rattle.lux_plans.specs.Runs.{World, Runs}
use Rattle.lux_plans.specs.Writings.{Writing}
use Rattle.lux_plans.proofs.Parts.{given_parts, refused_parts, accepted_is, refused_is}
use Rattle.lux_plans.proofs.Rows.{row_of}
use Rattle.lux_top.specs.GenerateCommand.{generated_lighting, summary_of, summary_text, summary_writing, generate_plan, IsDefaultLedger, IsGenerated, GenerateRefusal, GenerateRow, SolvesGenerated, SolvesGeneratedInPart}
use Rattle.lux_top.specs.ProjectFiles.{lit_room, light_refusal}
use Rattle.lux_top.specs.RunCommand.{problem_of}
use Rattle.lux_top.specs.Settlements.{no_verdict}
use Rattle.lux_top.proofs.Plain.{plain_generate}
use Rattle.lux_top.proofs.SettlementRows.{IsWrittenOf, settlement_is, never_refused, solved_whole, solved_in_part}

module _ (number : ℕ) where
  -- the number's project is no lit room
  light_reason : (fault : LightFault) → lit_room_of (generated_lighting number) ≡ Err fault → GenerateRefusal number (light_refusal fault)
  light_reason (light.Room fault) refused = refused
  light_reason (light.Fixture fault) refused = refused
  light_reason (light.Limits fault) refused = refused
  light_reason (light.Grid check fault) refused = refused
  light_reason light.Memory refused = tt

  reason : (before after : ShelfState) (refusal : Answer) → Decides (generate_plan number) before after (Err refusal) → GenerateRefusal number refusal
  reason before after refusal h = elim (refused_parts (lit_room (generated_lighting number)) (summary_of number) before after refusal h) [
    | inl first ↦
        let refused = refused_is (lit_room_of (generated_lighting number)) light_refusal before after refusal first in
        rw refused.2 (light_reason refused.0 refused.1)
    | inr parts ↦ absurd (never_refused (summary_writing number parts.0) before after (IsDefaultLedger parts.0) refusal parts.2)
  ]

  generated_is : (before : ShelfState) (lighting : Lighting) → Decides (lit_room (generated_lighting number)) before before (Ok lighting) → IsGenerated number lighting
  generated_is before lighting h =
      let found = accepted_is (lit_room_of (generated_lighting number)) light_refusal before before lighting h in
      let is : lighting ≡ generated_lighting number = lit_room_itself (generated_lighting number) lighting found in
      record { is_of_number = is; accepted = subst (λ (l : Lighting). lit_room_of l ≡ Ok lighting) (sym is) found }

module _ (number : ℕ) (before after : World) where
  -- what was solved, and the summary
  solved : (writing : Writing) → Decides (generate_plan number) before.shelf after.shelf (Ok writing)
      → IsWrittenOf (IsGenerated number) problem_of IsDefaultLedger no_verdict (λ lighting ledger. summary_text number lighting) writing
  solved writing h =
      let parts = given_parts (lit_room (generated_lighting number)) (summary_of number) before.shelf after.shelf writing h in
      let said = generated_is number before.shelf parts.0 parts.1 in
      let settled = settlement_is (summary_writing number parts.0) before.shelf after.shelf (IsDefaultLedger parts.0) writing parts.2 in
      (parts.0, settled.0, record { is_said = said; within_limits = within_limits parts.0 said.accepted; is_ledger = settled.1 }, settled.2)

  completes : (writing : Writing) → Decides (generate_plan number) before.shelf after.shelf (Ok writing) → Wrote before.out after.out writing.bytes → after.notes ≡ before.notes → SolvesGenerated number before after writing.answer
  completes writing h = solved_whole (IsGenerated number) problem_of IsDefaultLedger no_verdict (λ lighting ledger. summary_text number lighting) before after writing (solved writing h)

  cuts_off : (writing : Writing) → Decides (generate_plan number) before.shelf after.shelf (Ok writing) → WroteSome before.out after.out writing.bytes → PutsNote answer.Write before.notes after.notes → SolvesGeneratedInPart number before after
  cuts_off writing h = solved_in_part (IsGenerated number) problem_of IsDefaultLedger no_verdict (λ lighting ledger. summary_text number lighting) before after writing (solved writing h)

  -- the row of each answer
  pub generate_row : (outcome : Outcome) → Runs (generate_plan number) before after outcome → GenerateRow number before after outcome.answer
  generate_row outcome runs =
      row_of (generate_plan number) (SolvesGenerated number before after) (SolvesGeneratedInPart number before after) (GenerateRefusal number) before after (plain_generate number)
      (record { completes = completes; cuts_off = cuts_off; reasons = reason number before.shelf after.shelf; memory = tt }) outcome runs
