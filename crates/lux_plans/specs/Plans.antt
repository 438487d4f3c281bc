-- A plan: what a command reads, in order, and what it then has. A command's plan is its order of refusals, read aloud.
use Rattle.std.specs.Prelude.{◌≡◌, ◌⊎◌, ◌≤◌, ℕ, List, [], ◌∷◌, Vec, Result, Ok, Err}
use Rattle.std.specs.declared.alloc.Global.{Global}
use Rattle.lux_io.specs.Shelves.{ShelfState, IsFile, Fails, FindsOverlong}
use Rattle.lux_answers.specs.declared.answers.Answer.{Answer}
use Rattle.lux_answers.specs.declared.answers.Answer.TheVariants.{Read, TooLong, Memory}

-- give a value; refuse with an answer; read the file of a name, of so many bytes at most, and go on with its bytes;
-- or go on with any value of which a fact holds: where the order of threads leaves a choice, or where the fact says what
-- the value is worth
pub data Plan (A : Type 0) : Type 1 where
  Give : A → Plan A
  Refuse : Answer → Plan A
  ReadFile : List ℕ → ℕ → (List ℕ → Plan A) → Plan A
  Choose : {B : Type 0} → (B → Type 0) → (B → Plan A) → Plan A

-- a plan, and then the plan for its value
abbrev pub and_then : {A B : Type 0} → Plan A → (A → Plan B) → Plan B
and_then (Give value) next = next value
and_then (Refuse answer) next = Refuse answer
and_then (ReadFile name limit more) next = ReadFile name limit (λ bytes. and_then (more bytes) next)
and_then (Choose P more) next = Choose P (λ choice. and_then (more choice) next)

-- the bytes of a file
abbrev pub file : List ℕ → ℕ → Plan (List ℕ)
file name limit = ReadFile name limit (λ bytes. Give bytes)

-- the value that was found, or the answer for its fault
abbrev pub accept : {V F : Type 0} → Result V F → (F → Answer) → Plan V
accept (Ok value) refusal = Give value
accept (Err fault) refusal = Refuse (refusal fault)

-- a step for each of some values, one after another
abbrev pub each : {A B : Type 0} → (A → Plan B) → List A → Plan (List B)
each step [] = Give []
each step (value ∷ values) = and_then (step value) (λ first. and_then (each step values) (λ others. Give (first ∷ others)))

-- the answer for a file that was not read: this very read raised its count and has the blame, and nothing else changed
abbrev pub Unread : List ℕ → ℕ → ShelfState → ShelfState → Answer → Type 0
Unread name limit before after (Read file) = (file ≡ name) × Fails before after name limit
Unread name limit before after (TooLong file) = (file ≡ name) × FindsOverlong before after name limit
Unread name limit before after _ = ⊥

abbrev pub OnRefusal : {A : Type 0} → (Answer → Type 0) → Result A Answer → Type 0
OnRefusal P (Ok value) = ⊥
OnRefusal P (Err answer) = P answer

-- what a plan comes to, with the shelf before and after: to give or to refuse leaves the shelf as it was
abbrev pub Decides : {A : Type 0} → Plan A → ShelfState → ShelfState → Result A Answer → Type 0
Decides (Give value) before after result = (result ≡ Ok value) × (after ≡ before)
Decides (Refuse answer) before after result = (result ≡ Err answer) × (after ≡ before)
Decides (ReadFile name limit next) before after result =
    OnRefusal (Unread name limit before after) result
    ⊎ ((bytes : List ℕ) × IsFile before name limit bytes × Decides (next bytes) before after result)
Decides (Choose {B} P next) before after result = (choice : B) × P choice × Decides (next choice) before after result

-- the files stay, and no count falls
pub record Keeps (before after : ShelfState) : Type 0 where
  pub files : after.files ≡ before.files
  pub faults : before.faults ≤ after.faults
  pub overlong : before.overlong ≤ after.overlong

-- the same, or want of memory at any moment, which may come after a read that failed
abbrev pub Takes : {A : Type 0} → Plan A → ShelfState → ShelfState → Result A Answer → Type 0
Takes plan before after result = Decides plan before after result ⊎ ((result ≡ Err Memory) × Keeps before after)

-- a part of a plan that reads nothing
abbrev pub Gives : {A : Type 0} → Plan A → Result A Answer → Type 0
Gives plan result = (shelf : ShelfState) → Takes plan shelf shelf result

-- the elements of a vector
abbrev pub items_of : {X : Type 0} → Result (Vec X Global) Answer → Result (List X) Answer
items_of (Ok vector) = Ok vector.items
items_of (Err answer) = Err answer
