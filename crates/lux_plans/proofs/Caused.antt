-- What follows of a call that follows a plan.
use Rattle.std.proofs.Common.{◌≡◌, ◌≤◌, ℕ, List, [], ◌∷◌, length, inl, inr, refl, sym, ap, subst, ◌∙◌, Result, Ok, Err, Option, Some, None, IfSome, IsSomeAnd, MatchBool, Bool, false, nat_le, ◌<◌, arith}
use Rattle.std.proofs.lemmas.Bool.{le-leb}
use Rattle.std.proofs.lemmas.Grind.{common_steps}
use Rattle.lux_io.specs.Shelves.{ShelfState, Rose, IsFile, Fails, FindsOverlong}
use Rattle.lux_answers.specs.declared.answers.Answer.{Answer}
use Rattle.lux_answers.specs.declared.answers.Answer.TheVariants.{Read, TooLong, Memory}
use Rattle.lux_answers.specs.declared.answers.Outcome.{Outcome}
use Rattle.lux_answers.specs.Answers.{Cause, Success, Contents, FailedRead, OverlongRead, FailedWrite, NoMemory, cause_of}
use Rattle.lux_plans.specs.Writings.{Writing}
use Rattle.lux_plans.specs.Plans.{Plan, Give, Refuse, ReadFile, Choose, Unread, Keeps, Decides, Takes, accept, and_then, each, file}
use Rattle.lux_plans.specs.Runs.{World, Refuses, Ends, Concludes, Runs, Comes, Leads, answer_of, IsComplete, Follows}

-- a cause that needs no read and no write
abbrev pub NeedsNothing : Cause → Type 0
NeedsNothing Contents = Unit {0}
NeedsNothing NoMemory = Unit {0}
NeedsNothing _ = ⊥

-- each refusal that the plan itself gives needs no cause but the words and the bytes, and each value is as P says
abbrev pub IsPlain : {A : Type 0} → (A → Type 0) → Plan A → Type 0
IsPlain P (Give value) = P value
IsPlain P (Refuse answer) = NeedsNothing (cause_of answer)
IsPlain P (ReadFile name limit next) = (bytes : List ℕ) → IsPlain P (next bytes)
IsPlain P (Choose {B} Q next) = (choice : B) → IsPlain P (next choice)

abbrev pub IsAny : {A : Type 0} → A → Type 0
IsAny value = Unit {0}

abbrev pub IsSuccess : Writing → Type 0
IsSuccess writing = cause_of writing.answer ≡ Success

pub plain_accept : {V F : Type 0} (result : Result V F) (refusal : F → Answer) → ((fault : F) → NeedsNothing (cause_of (refusal fault))) → IsPlain IsAny (accept result refusal)
plain_accept (Ok value) refusal plain = tt
plain_accept (Err fault) refusal plain = plain fault

pub plain_then : {A B : Type 0} (P : A → Type 0) (Q : B → Type 0) (plan : Plan A) (next : A → Plan B) → IsPlain P plan → ((value : A) → P value → IsPlain Q (next value)) → IsPlain Q (and_then plan next)
plain_then P Q (Give value) next first rest = rest value first
plain_then P Q (Refuse answer) next first rest = first
plain_then P Q (ReadFile name limit more) next first rest = λ bytes. plain_then P Q (more bytes) next (first bytes) rest
plain_then P Q (Choose R more) next first rest = λ choice. plain_then P Q (more choice) next (first choice) rest

-- a file that is read and then accepted
pub plain_file : {V F : Type 0} (name : List ℕ) (limit : ℕ) (found : List ℕ → Result V F) (refusal : F → Answer) → ((fault : F) → NeedsNothing (cause_of (refusal fault)))
    → IsPlain IsAny (and_then (file name limit) (λ text. accept (found text) refusal))
plain_file name limit found refusal plain = λ text. plain_accept (found text) refusal plain

-- the same step for some values
pub plain_each : {A B : Type 0} (step : A → Plan B) → ((value : A) → IsPlain IsAny (step value)) → (values : List A) → IsPlain IsAny (each step values)
plain_each step plain [] = tt
plain_each step plain (value ∷ values) =
    plain_then IsAny IsAny (step value) (λ first. and_then (each step values) (λ others. Give (first ∷ others))) (plain value)
    (λ first any. plain_then IsAny IsAny (each step values) (λ others. Give (first ∷ others)) (plain_each step plain values) (λ others any. tt))

-- what the shelf shows for the cause of a refusal
abbrev pub Shows : Cause → ShelfState → ShelfState → Type 0
Shows Success before after = ⊥
Shows Contents before after = after ≡ before
Shows (FailedRead name) before after = (limit : ℕ) × Fails before after name limit
Shows (OverlongRead name) before after = (limit : ℕ) × FindsOverlong before after name limit
Shows FailedWrite before after = ⊥
Shows NoMemory before after = Keeps before after

-- what the shelf and the answer show of a decision
abbrev DecisionShows : Result Writing Answer → ShelfState → ShelfState → Type 0
DecisionShows (Ok writing) before after = IsSuccess writing × (after ≡ before)
DecisionShows (Err answer) before after = Shows (cause_of answer) before after

keeps_all : (before after : ShelfState) → after ≡ before → Keeps before after
keeps_all before after same = rw same (record { files = refl; faults = omega arith; overlong = omega arith })

nothing_shows : (cause : Cause) (before after : ShelfState) → NeedsNothing cause → after ≡ before → Shows cause before after
nothing_shows Contents before after needs same = same
nothing_shows NoMemory before after needs same = keeps_all before after same
nothing_shows _ before after needs same = absurd needs

unread_shows : (name : List ℕ) (limit : ℕ) (before after : ShelfState) (answer : Answer) → Unread name limit before after answer → Shows (cause_of answer) before after
unread_shows name limit before after (Read file) h = (limit, rw h.0 h.1)
unread_shows name limit before after (TooLong file) h = (limit, rw h.0 h.1)
unread_shows name limit before after _ h = absurd h

decided_shows : (plan : Plan Writing) (before after : ShelfState) (result : Result Writing Answer) → IsPlain IsSuccess plan → Decides plan before after result → DecisionShows result before after
decided_shows (Give writing) before after result plain (is, same) = subst (λ d. DecisionShows d before after) (sym is) (plain, same)
decided_shows (Refuse answer) before after result plain (is, same) = subst (λ d. DecisionShows d before after) (sym is) (nothing_shows (cause_of answer) before after plain same)
decided_shows (ReadFile name limit next) before after (Err answer) plain (inl unread) = unread_shows name limit before after answer unread
decided_shows (ReadFile name limit next) before after (Ok writing) plain (inl unread) = absurd unread
decided_shows (ReadFile name limit next) before after result plain (inr (bytes, file, rest)) = decided_shows (next bytes) before after result (plain bytes) rest
decided_shows (Choose P next) before after result plain (choice, met, rest) = decided_shows (next choice) before after result (plain choice) rest

-- each refusal of a plan has its cause, and none is a success or a failed write
pub refusal_shows : (plan : Plan Writing) (before after : ShelfState) (answer : Answer) → IsPlain IsSuccess plan → Decides plan before after (Err answer) → Shows (cause_of answer) before after
refusal_shows plan before after answer plain h = decided_shows plan before after (Err answer) plain h

-- each value of a plan is a success
pub value_shows : (plan : Plan Writing) (before after : ShelfState) (writing : Writing) → IsPlain IsSuccess plan → Decides plan before after (Ok writing) → IsSuccess writing
value_shows plan before after writing plain h = (decided_shows plan before after (Ok writing) plain h).0

taken_shows : (plan : Plan Writing) (before after : ShelfState) (result : Result Writing Answer) → IsPlain IsSuccess plan → Takes plan before after result → DecisionShows result before after
taken_shows plan before after result plain (inl h) = decided_shows plan before after result plain h
taken_shows plan before after result plain (inr (memory, keeps)) = subst (λ d. DecisionShows d before after) (sym memory) keeps

refusal_comes : (cause : Cause) (answer : Answer) (before after : World) → Shows cause before.shelf after.shelf → Refuses answer before after → Comes cause answer before after
refusal_comes Success answer before after h refuses = absurd h
refusal_comes Contents answer before after h refuses = (refuses, h)
refusal_comes (FailedRead name) answer before after h refuses = (refuses, h)
refusal_comes (OverlongRead name) answer before after h refuses = (refuses, h)
refusal_comes FailedWrite answer before after h refuses = absurd h
refusal_comes NoMemory answer before after h refuses = (refuses, h)

end_comes : (decision : Result Writing Answer) (before after : World) (outcome : Outcome) → DecisionShows decision before.shelf after.shelf → Ends decision before after outcome → Comes (cause_of outcome.answer) outcome.answer before after
end_comes (Err answer) before after outcome h (is, refuses) =
    subst (λ (o : Outcome). Comes (cause_of o.answer) o.answer before after) (sym is) (refusal_comes (cause_of answer) answer before after h refuses)
end_comes (Ok writing) before after outcome h (inl (is, wrote, same)) =
    subst (λ (o : Outcome). Comes (cause_of o.answer) o.answer before after) (sym is) (subst (λ c. Comes c writing.answer before after) (sym h.0) (same, h.1))
end_comes (Ok writing) before after outcome h (inr (is, some, noted)) =
    subst (λ (o : Outcome). Comes (cause_of o.answer) o.answer before after) (sym is) (noted, some.rose, h.1)

not_le : (a b : ℕ) → b < a → nat_le a b ≡ false
not_le a b h = grind (arith, common_steps)

within : (bytes : List ℕ) (limit : ℕ) (P Q : Type 0) → length bytes ≤ limit → P → MatchBool (nat_le (length bytes) limit) P Q
within bytes limit P Q h p = subst (λ (b : Bool). MatchBool b P Q) (sym (le-leb (length bytes) limit h)) p

beyond : (bytes : List ℕ) (limit : ℕ) (P Q : Type 0) → limit < length bytes → Q → MatchBool (nat_le (length bytes) limit) P Q
beyond bytes limit P Q h q = subst (λ (b : Bool). MatchBool b P Q) (sym (not_le (length bytes) limit h)) q

overlong_leads : (file : Option (List ℕ)) (limit : ℕ) (P : List ℕ → Type 0) (Q : Type 0) → IsSomeAnd file (λ bytes. limit < length bytes) → Q → IfSome file (λ bytes. MatchBool (nat_le (length bytes) limit) (P bytes) Q)
overlong_leads None limit P Q h q = tt
overlong_leads (Some bytes) limit P Q h q = beyond bytes limit (P bytes) Q h q

unread_leads : (A : Type 0) (name : List ℕ) (limit : ℕ) (before after : ShelfState) (files : List ℕ → Option (List ℕ)) (answer : Answer) (P : List ℕ → Type 0) → before.files ≡ Some files → (Rose before.faults after.faults → ⊥) → Unread name limit before after answer
    → IfSome (files name) (λ bytes. MatchBool (nat_le (length bytes) limit) (P bytes) (◌≡◌ {A = Result A Answer} (Err answer) (Err (TooLong name))))
unread_leads A name limit before after files (Read file) P told no_fault h = absurd (no_fault h.1.rose)
unread_leads A name limit before after files (TooLong file) P told no_fault h =
    overlong_leads (files name) limit P (◌≡◌ {A = Result A Answer} (Err (TooLong file)) (Err (TooLong name))) (rw told at h.1.overlong) (ap (λ (n : List ℕ). Err (TooLong n)) h.0)
unread_leads A name limit before after files _ P told no_fault h = absurd h

told_is : (shelf : ShelfState) (files : List ℕ → Option (List ℕ)) (name : List ℕ) (limit : ℕ) (bytes : List ℕ) → shelf.files ≡ Some files → IsFile shelf name limit bytes → files name ≡ Some bytes
told_is shelf files name limit bytes told file = rw told at file.told

leads_of : {A : Type 0} (plan : Plan A) (before after : ShelfState) (files : List ℕ → Option (List ℕ)) (result : Result A Answer) → before.files ≡ Some files → (Rose before.faults after.faults → ⊥) → Decides plan before after result → Leads plan files result
leads_of (Give value) before after files result told no_fault h = h.0
leads_of (Refuse answer) before after files result told no_fault h = h.0
leads_of (ReadFile name limit next) before after files (Ok value) told no_fault (inl unread) = absurd unread
leads_of {A} (ReadFile name limit next) before after files (Err answer) told no_fault (inl unread) = unread_leads A name limit before after files answer (λ bytes. Leads (next bytes) files (Err answer)) told no_fault unread
leads_of (ReadFile name limit next) before after files result told no_fault (inr (bytes, file, rest)) =
    subst (λ (o : Option (List ℕ)). IfSome o (λ b. MatchBool (nat_le (length b) limit) (Leads (next b) files result) (result ≡ Err (TooLong name)))) (sym (told_is before files name limit bytes told file))
    (within bytes limit (Leads (next bytes) files result) (result ≡ Err (TooLong name)) file.short (leads_of (next bytes) before after files result told no_fault rest))
leads_of (Choose P next) before after files result told no_fault (choice, met, rest) = (choice, met, leads_of (next choice) before after files result told no_fault rest)

answer_is : (decision : Result Writing Answer) (before after : World) (outcome : Outcome) → (Rose before.out.faults after.out.faults → ⊥) → Ends decision before after outcome → outcome.answer ≡ answer_of decision
answer_is (Err answer) before after outcome no_fault (is, refuses) = ap (λ (o : Outcome). o.answer) is
answer_is (Ok writing) before after outcome no_fault (inl (is, wrote, same)) = ap (λ (o : Outcome). o.answer) is
answer_is (Ok writing) before after outcome no_fault (inr (is, some, noted)) = absurd (no_fault some.rose)

complete_of : (plan : Plan Writing) (before after : World) (outcome : Outcome) → Runs plan before after outcome → IsComplete plan before after outcome
complete_of plan before after outcome runs files told no_fault no_write =
    let same : outcome.answer ≡ answer_of runs.decision = answer_is runs.decision before after outcome no_write runs.ends in
    elim runs.taken [
      | inl h ↦ inr (runs.decision, leads_of plan before.shelf after.shelf files runs.decision told no_fault h, same)
      | inr memory ↦ inl (same ∙ ap answer_of memory.0)
    ]

follows_runs : (plan : Plan Writing) (before after : World) (outcome : Outcome) → IsPlain IsSuccess plan → Runs plan before after outcome → Follows plan before after outcome
follows_runs plan before after outcome plain runs = record {
  runs = runs;
  caused = end_comes runs.decision before after outcome (taken_shows plan before.shelf after.shelf runs.decision plain runs.taken) runs.ends;
  complete = complete_of plan before after outcome runs;
}

keeps_of : {A : Type 0} (plan : Plan A) (before after : ShelfState) (result : Result A Answer) → Decides plan before after result → Keeps before after
keeps_of (Give value) before after result h = keeps_all before after h.1
keeps_of (Refuse answer) before after result h = keeps_all before after h.1
keeps_of (ReadFile name limit next) before after (Ok value) (inl unread) = absurd unread
keeps_of (ReadFile name limit next) before after (Err answer) (inl unread) = unread_keeps name limit before after answer unread
  where
    raised : (a b : ℕ) → Rose a b → a ≤ b
    raised a b rose = grind (arith, common_steps)

    unread_keeps : (name : List ℕ) (limit : ℕ) (before after : ShelfState) (answer : Answer) → Unread name limit before after answer → Keeps before after
    unread_keeps name limit before after (Read file) h = let rose = raised before.faults after.faults h.1.rose in record {
      files = ap (λ (s : ShelfState). s.files) h.1.same;
      faults = rose;
      overlong = let same = ap (λ (s : ShelfState). s.overlong) h.1.same in omega arith;
    }
    unread_keeps name limit before after (TooLong file) h = let rose = raised before.overlong after.overlong h.1.rose in record {
      files = ap (λ (s : ShelfState). s.files) h.1.same;
      faults = let same = ap (λ (s : ShelfState). s.faults) h.1.same in omega arith;
      overlong = rose;
    }
    unread_keeps name limit before after _ h = absurd h
keeps_of (ReadFile name limit next) before after result (inr (bytes, is_file, rest)) = keeps_of (next bytes) before after result rest
keeps_of (Choose P next) before after result (choice, met, rest) = keeps_of (next choice) before after result rest

no_memory : {A : Type 0} (plan : Plan A) (before after : ShelfState) (result : Result A Answer) → Takes plan before after result → Takes plan before after (Err Memory)
no_memory plan before after result (inl h) = inr (refl, keeps_of plan before after result h)
no_memory plan before after result (inr (memory, keeps)) = inr (refl, keeps)

-- the plan was taken, and then concluded
pub follows_of : (plan : Plan Writing) (before after : World) (outcome : Outcome) (decision : Result Writing Answer) → IsPlain IsSuccess plan → Takes plan before.shelf after.shelf decision → Concludes decision before after outcome → Follows plan before after outcome
follows_of plan before after outcome decision plain taken (inl first) = follows_runs plan before after outcome plain (record { decision = decision; taken = taken; ends = first })
follows_of plan before after outcome decision plain taken (inr second) =
    follows_runs plan before after outcome plain (record { decision = Err Memory; taken = no_memory plan before.shelf after.shelf decision taken; ends = second })
