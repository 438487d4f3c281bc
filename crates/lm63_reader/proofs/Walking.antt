-- Steps along the tokens and the lines.
use Rattle.std.proofs.Common.{◌≡◌, ℕ, List, ◌∷◌, Some, None, Bool, true, false, length, refl}
use Rattle.std.specs.Prelude.{slice_get, find}
use Rattle.lux_lines.specs.Places.{Piece}
use Rattle.lm63_reader.specs.declared.faults.LmFault.TheVariants.{Short}
use Rattle.lm63_reader.specs.Fields.{number_at, number_duty, token_number_duty, token_number, no_token}
use Rattle.lm63_reader.specs.declared.faults.LmFault.TheVariants.{Trailing}

-- past the last token
pub number_duty_none : (all : List Piece) (k : ℕ) → slice_get all k ≡ None → number_duty all k ≡ Some (Short (length all))
unfolding number_duty
number_duty_none all k h = rw h refl

-- at a token
pub number_duty_some : (all : List Piece) (k : ℕ) (token : Piece) → slice_get all k ≡ Some token → (number_duty all k ≡ token_number_duty token) × (number_at all k ≡ token_number token)
unfolding number_duty number_at
number_duty_some all k token h = (rw h refl, rw h refl)

pub no_token_none : (all : List Piece) (k : ℕ) → slice_get all k ≡ None → no_token all k ≡ None
unfolding no_token
no_token_none all k h = rw h refl

pub no_token_some : (all : List Piece) (k : ℕ) (token : Piece) → slice_get all k ≡ Some token → no_token all k ≡ Some (Trailing token.number)
unfolding no_token
no_token_some all k token h = rw h refl

-- the first that passes is the one in front, or it stands behind
pub find_here : {X : Type 0} (test : X → Bool) (x : X) (xs : List X) → test x ≡ true → find test (x ∷ xs) ≡ Some x
find_here test x xs h = rw h refl

pub find_later : {X : Type 0} (test : X → Bool) (x : X) (xs : List X) → test x ≡ false → find test (x ∷ xs) ≡ find test xs
find_later test x xs h = rw h refl
