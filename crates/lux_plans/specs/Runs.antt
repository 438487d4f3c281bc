-- What a call promises that follows a plan.
use Rattle.std.specs.Prelude.{◌≡◌, ◌⊎◌, ℕ, List, length, Option, Some, IfSome, MatchBool, nat_le, Result, Ok, Err}
use Rattle.lux_io.specs.Shelves.{ShelfState, Rose, Fails, FindsOverlong}
use Rattle.lux_io.specs.Sinks.{SinkState, Wrote, WroteSome}
use Rattle.lux_answers.specs.declared.answers.Answer.{Answer}
use Rattle.lux_answers.specs.declared.answers.Answer.TheVariants.{TooLong, Write, Memory}
use Rattle.lux_answers.specs.declared.answers.Outcome.{Outcome}
use Rattle.lux_answers.specs.Answers.{Cause, Success, Contents, FailedRead, OverlongRead, FailedWrite, NoMemory, cause_of, outcome_of}
use Rattle.lux_answers.specs.Notes.{PutsNote}
use Rattle.lux_plans.specs.Plans.{Plan, Give, Refuse, ReadFile, Choose, Keeps, Takes}
use Rattle.lux_plans.specs.Writings.{Writing}

-- what a call is lent: the shelf that it reads from, the output and the notes
pub record World : Type 0 where
  pub shelf : ShelfState
  pub out : SinkState
  pub notes : SinkState

abbrev pub world : ShelfState → SinkState → SinkState → World
world shelf out notes = record { shelf = shelf; out = out; notes = notes }

-- nothing was written to the output, and the answer's line was put to the notes
pub record Refuses (answer : Answer) (before after : World) : Type 0 where
  pub quiet : after.out ≡ before.out
  pub noted : PutsNote answer before.notes after.notes

-- all bytes were written and no note was put; or the output had a fault, took a part of them from the front, and that was noted
abbrev pub Writes : Writing → World → World → Outcome → Type 0
Writes writing before after outcome =
    ((outcome ≡ outcome_of writing.answer) × Wrote before.out after.out writing.bytes × (after.notes ≡ before.notes))
    ⊎ ((outcome ≡ outcome_of Write) × WroteSome before.out after.out writing.bytes × PutsNote Write before.notes after.notes)

-- what a decision ends with
abbrev pub Ends : Result Writing Answer → World → World → Outcome → Type 0
Ends (Ok writing) before after outcome = Writes writing before after outcome
Ends (Err answer) before after outcome = (outcome ≡ outcome_of answer) × Refuses answer before after

-- the same; or want of memory for the note of another refusal
abbrev pub Concludes : Result Writing Answer → World → World → Outcome → Type 0
Concludes decision before after outcome = Ends decision before after outcome ⊎ Ends (Err Memory) before after outcome

-- the plan was taken, and the call ended with what it came to
pub record Runs (plan : Plan Writing) (before after : World) (outcome : Outcome) : Type 0 where
  pub decision : Result Writing Answer
  pub taken : Takes plan before.shelf after.shelf decision
  pub ends : Ends decision before after outcome

-- what comes with an answer of each cause; only a read that failed changes the shelf
abbrev pub Comes : Cause → Answer → World → World → Type 0
Comes Success answer before after = (after.notes ≡ before.notes) × (after.shelf ≡ before.shelf)
Comes Contents answer before after = Refuses answer before after × (after.shelf ≡ before.shelf)
Comes (FailedRead name) answer before after = Refuses answer before after × ((limit : ℕ) × Fails before.shelf after.shelf name limit)
Comes (OverlongRead name) answer before after = Refuses answer before after × ((limit : ℕ) × FindsOverlong before.shelf after.shelf name limit)
Comes FailedWrite answer before after = PutsNote answer before.notes after.notes × Rose before.out.faults after.out.faults × (after.shelf ≡ before.shelf)
Comes NoMemory answer before after = Refuses answer before after × Keeps before.shelf after.shelf

-- what a plan comes to where each file is told and can be read
abbrev pub Leads : {A : Type 0} → Plan A → (List ℕ → Option (List ℕ)) → Result A Answer → Type 0
Leads (Give value) files result = result ≡ Ok value
Leads (Refuse answer) files result = result ≡ Err answer
Leads (ReadFile name limit next) files result = IfSome (files name) (λ bytes. MatchBool (nat_le (length bytes) limit) (Leads (next bytes) files result) (result ≡ Err (TooLong name)))
Leads (Choose {B} P next) files result = (choice : B) × P choice × Leads (next choice) files result

abbrev pub answer_of : Result Writing Answer → Answer
answer_of (Ok writing) = writing.answer
answer_of (Err answer) = answer

-- where the files are told and no count of faults rose, the answer is the plan's, or want of memory
abbrev pub IsComplete : Plan Writing → World → World → Outcome → Type 0
IsComplete plan before after outcome =
    (files : List ℕ → Option (List ℕ)) → before.shelf.files ≡ Some files
    → (Rose before.shelf.faults after.shelf.faults → ⊥) → (Rose before.out.faults after.out.faults → ⊥)
    → (outcome.answer ≡ Memory) ⊎ ((decision : Result Writing Answer) × Leads plan files decision × (outcome.answer ≡ answer_of decision))

-- the whole promise of a call that follows a plan: what it did, why its answer came, and that no other answer was due
pub record Follows (plan : Plan Writing) (before after : World) (outcome : Outcome) : Type 0 where
  pub runs : Runs plan before after outcome
  pub caused : Comes (cause_of outcome.answer) outcome.answer before after
  pub complete : IsComplete plan before after outcome

-- what a row says, by the cause of its answer: a success is completed, a failed write cut it off, and each other answer is a
-- refusal, for a reason
abbrev pub RowFor : Cause → (Answer → Type 0) → Type 0 → (Answer → Type 0) → World → World → Answer → Type 0
RowFor Success Completed CutOff Reason before after answer = Completed answer
RowFor FailedWrite Completed CutOff Reason before after answer = CutOff
RowFor _ Completed CutOff Reason before after answer = Refuses answer before after × Reason answer

-- the row of an answer of a command: what it is where all was written, what where the output failed, and each refusal's reason
abbrev pub Row : (Answer → Type 0) → Type 0 → (Answer → Type 0) → World → World → Answer → Type 0
Row Completed CutOff Reason before after answer = RowFor (cause_of answer) Completed CutOff Reason before after answer
