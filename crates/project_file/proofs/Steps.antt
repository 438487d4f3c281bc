-- A call that ends with the answer of another.
use Rattle.std.proofs.Common.{◌≡◌, ◌∙◌, [], ◌∷◌, Option, Some, None, Result}
use Rattle.duties.specs.Duties.{Answers, first}
use Rattle.duties.proofs.Orders.{this_met, front_met, fault_in_front, last_decides}

-- the answer to a last duty is that to both, where the one in front is met
pub then_answers : {F V : Type 0} (memory : F) (r : Result V F) (front last : Option F) → front ≡ None → Answers memory last r → Answers memory (first (front ∷ last ∷ [])) r
then_answers memory r front last h answer = rw (this_met front (last ∷ []) h ∙ last_decides last) answer

-- and to a list of it alone
pub alone_answers : {F V : Type 0} (memory : F) (r : Result V F) (last : Option F) → Answers memory last r → Answers memory (first (last ∷ [])) r
alone_answers memory r last answer = rw (last_decides last) answer

-- the same behind a duty, two more and before nothing else
pub fourth_answers : {F V : Type 0} (memory : F) (r : Result V F) (one two three last : Option F) → one ≡ None → first (two ∷ three ∷ []) ≡ None → Answers memory last r → Answers memory (first (one ∷ two ∷ three ∷ last ∷ [])) r
fourth_answers memory r one two three last h g answer =
    rw (this_met one (two ∷ three ∷ last ∷ []) h ∙ (front_met (two ∷ three ∷ []) (last ∷ []) g ∙ last_decides last)) answer

-- a fault of the two in the middle is the fault of all
pub middle_fails : {F : Type 0} (one two three last : Option F) (f : F) → one ≡ None → first (two ∷ three ∷ []) ≡ Some f → first (one ∷ two ∷ three ∷ last ∷ []) ≡ Some f
middle_fails one two three last f h g = this_met one (two ∷ three ∷ last ∷ []) h ∙ fault_in_front (two ∷ three ∷ []) (last ∷ []) f g
