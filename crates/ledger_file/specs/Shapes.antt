-- Shapes that only the code stands on: what a step along the words of a line leaves of its form. No public clause cites these.
use Rattle.std.specs.Prelude.{◌≡◌, ℕ, ◌++◌, false, List, Option, Some, None}
use Rattle.ledger_file.specs.Forms.{Place, have_form, numbers_of}

-- Some places were read, with these numbers; or the words have no form that begins with them.
abbrev pub Reads : List Place → List (List ℕ) → List (List ℕ) → Option (List ℕ) → Type 0
Reads places old new None = (rest : List Place) → have_form (places ++ rest) old ≡ false
Reads places old new (Some numbers) = (rest : List Place) → (have_form (places ++ rest) old ≡ have_form rest new) × (numbers_of (places ++ rest) old ≡ numbers ++ numbers_of rest new)
