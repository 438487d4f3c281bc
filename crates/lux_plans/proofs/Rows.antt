-- The row of each answer of a command, from the command's plan.
use Rattle.std.proofs.Common.{◌≡◌, inl, inr, sym, subst, Result, Ok, Err}
use Rattle.lux_io.specs.Shelves.{ShelfState}
use Rattle.lux_io.specs.Sinks.{Wrote, WroteSome}
use Rattle.lux_answers.specs.declared.answers.Answer.{Answer}
use Rattle.lux_answers.specs.declared.answers.Answer.TheVariants.{Write, Memory}
use Rattle.lux_answers.specs.declared.answers.Outcome.{Outcome}
use Rattle.lux_answers.specs.Answers.{Cause, Success, Contents, FailedRead, OverlongRead, FailedWrite, NoMemory, cause_of, outcome_of}
use Rattle.lux_answers.specs.Notes.{PutsNote}
use Rattle.lux_plans.specs.Plans.{Plan, Decides}
use Rattle.lux_plans.specs.Writings.{Writing}
use Rattle.lux_plans.specs.Runs.{World, Refuses, Row, RowFor, Ends, Runs}
use Rattle.lux_plans.proofs.Caused.{IsPlain, IsSuccess, Shows, refusal_shows, value_shows}

-- What a command's plan has to say for the command's rows: what it is where a value of the plan was written, whole or in
-- part, and the reason of each refusal of the plan. Want of memory needs no reason.
pub record IsRowed (plan : Plan Writing) (Completed : Answer → Type 0) (CutOff : Type 0) (Reason : Answer → Type 0) (before after : World) : Type 0 where
  pub completes : (writing : Writing) → Decides plan before.shelf after.shelf (Ok writing) → Wrote before.out after.out writing.bytes → after.notes ≡ before.notes → Completed writing.answer
  pub cuts_off : (writing : Writing) → Decides plan before.shelf after.shelf (Ok writing) → WroteSome before.out after.out writing.bytes → PutsNote Write before.notes after.notes → CutOff
  pub reasons : (answer : Answer) → Decides plan before.shelf after.shelf (Err answer) → Reason answer
  pub memory : Reason Memory

module _ (plan : Plan Writing) (Completed : Answer → Type 0) (CutOff : Type 0) (Reason : Answer → Type 0) (before after : World) (plain : IsPlain IsSuccess plan) (rowed : IsRowed plan Completed CutOff Reason before after) where
  abbrev RowOf : Answer → Type 0
  RowOf = Row Completed CutOff Reason before after

  row_of_outcome : (outcome : Outcome) (answer : Answer) → outcome ≡ outcome_of answer → RowOf answer → RowOf outcome.answer
  row_of_outcome outcome answer is row = subst (λ (o : Outcome). RowOf o.answer) (sym is) row

  -- a refusal's row
  refusal_row : (cause : Cause) (answer : Answer) (old new : ShelfState) → Shows cause old new → Refuses answer before after → Reason answer → RowFor cause Completed CutOff Reason before after answer
  refusal_row Success answer old new shows refuses why = absurd shows
  refusal_row FailedWrite answer old new shows refuses why = absurd shows
  refusal_row Contents answer old new shows refuses why = (refuses, why)
  refusal_row (FailedRead name) answer old new shows refuses why = (refuses, why)
  refusal_row (OverlongRead name) answer old new shows refuses why = (refuses, why)
  refusal_row NoMemory answer old new shows refuses why = (refuses, why)

  -- the row of a success
  success_row : (writing : Writing) → IsSuccess writing → Completed writing.answer → RowOf writing.answer
  success_row writing is done = subst (λ (c : Cause). RowFor c Completed CutOff Reason before after writing.answer) (sym is) done

  end_row : (decision : Result Writing Answer) (outcome : Outcome) → Decides plan before.shelf after.shelf decision → Ends decision before after outcome → RowOf outcome.answer
  end_row (Err answer) outcome h (is, refuses) =
      row_of_outcome outcome answer is (refusal_row (cause_of answer) answer before.shelf after.shelf (refusal_shows plan before.shelf after.shelf answer plain h) refuses (rowed.reasons answer h))
  end_row (Ok writing) outcome h (inl (is, wrote, same)) =
      row_of_outcome outcome writing.answer is (success_row writing (value_shows plan before.shelf after.shelf writing plain h) (rowed.completes writing h wrote same))
  end_row (Ok writing) outcome h (inr (is, some, noted)) = row_of_outcome outcome Write is (rowed.cuts_off writing h some noted)

  memory_row : (decision : Result Writing Answer) (outcome : Outcome) → decision ≡ Err Memory → Ends decision before after outcome → RowOf outcome.answer
  memory_row decision outcome is ends =
      let refuses = subst (λ (d : Result Writing Answer). Ends d before after outcome) is ends in
      row_of_outcome outcome Memory refuses.0 (refuses.1, rowed.memory)

  -- the row of a call that ran the plan
  pub row_of : (outcome : Outcome) → Runs plan before after outcome → RowOf outcome.answer
  row_of outcome runs = elim runs.taken [
    | inl h ↦ end_row runs.decision outcome h runs.ends
    | inr memory ↦ memory_row runs.decision outcome memory.0 runs.ends
  ]
