-- Steps along the words of a line.
use Rattle.std.proofs.Common.{◌≡◌, ℕ, ◌∷◌, ◌++◌, List, Option, Some, None, ◌∙◌}
use Rattle.ledger_file.specs.Forms.{Place, have_form, numbers_of}
use Rattle.ledger_file.specs.Forms.Place.{Word}
use Rattle.ledger_file.specs.Shapes.{Reads}

-- a word, and then some places
pub word_then : (expected : List ℕ) (places : List Place) (old between new : List (List ℕ)) (numbers : Option (List ℕ))
    → ((rest : List Place) → (have_form (Word expected ∷ rest) old ≡ have_form rest between) × (numbers_of (Word expected ∷ rest) old ≡ numbers_of rest between))
    → Reads places between new numbers → Reads (Word expected ∷ places) old new numbers
word_then expected places old between new None first then = λ rest. (first (places ++ rest)).0 ∙ then rest
word_then expected places old between new (Some numbers) first then = λ rest. ((first (places ++ rest)).0 ∙ (then rest).0, (first (places ++ rest)).1 ∙ (then rest).1)
