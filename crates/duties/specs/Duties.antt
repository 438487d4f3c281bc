-- A duty is what came of one test: nothing where it was passed, and else its fault. All definitions here are this project's own words.
use Rattle.std.specs.Prelude.{◌≡◌, ◌≢◌, ℕ, Bool, if◌then◌else◌, Option, Some, None, Result, Ok, Err, List, [], ◌∷◌, map}
use Rattle.std.specs.List.{range_with_len}

abbrev pub Duty : Type 0 → Type 0
Duty F = Option F

-- the fault, unless the test is passed
unfoldable pub unless : {F : Type 0} → Bool → F → Duty F
unless test fault = if test then None else Some fault

-- the first of some duties that isn't met
unfoldable pub first : {F : Type 0} → List (Duty F) → Duty F
first [] = None
first (None ∷ later) = first later
first (Some fault ∷ later) = Some fault

-- a duty for each number below a count: the first that isn't met
unfoldable pub each : {F : Type 0} → ℕ → (ℕ → Duty F) → Duty F
each count duty = first (map duty (range_with_len 0 count))

-- the fault of the first duty that isn't met, or else the value
abbrev pub judged : {F V : Type 0} → List (Duty F) → V → Result V F
judged duties value = value_unless value (first duties)
  where
    value_unless : {F V : Type 0} → V → Duty F → Result V F
    value_unless value None = Ok value
    value_unless value (Some fault) = Err fault

-- What a call answers that stands for a duty: Ok only where it is met; an error that isn't want of memory is its fault.
abbrev pub Answers : {F V : Type 0} → F → Duty F → Result V F → Type 0
Answers memory duty (Ok value) = duty ≡ None
Answers memory duty (Err fault) = fault ≢ memory → duty ≡ Some fault
