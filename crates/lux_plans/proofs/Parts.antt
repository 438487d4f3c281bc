-- From what a plan came to, what its parts came to: so each row of a command follows from the command's plan.
use Rattle.std.proofs.Common.{◌≡◌, ◌⊎◌, inl, inr, ℕ, List, refl, ap, Result, Ok, Err}
use Rattle.lux_io.specs.Shelves.{ShelfState, IsFile}
use Rattle.lux_answers.specs.declared.answers.Answer.{Answer}
use Rattle.lux_plans.specs.Plans.{Plan, Give, Refuse, ReadFile, Choose, Decides, Unread, accept, and_then, file}

module _ {A B : Type 0} where
  -- two plans that gave a value
  pub given_parts : (plan : Plan A) (next : A → Plan B) (before after : ShelfState) (value : B) → Decides (and_then plan next) before after (Ok value)
      → (first : A) × Decides plan before before (Ok first) × Decides (next first) before after (Ok value)
  given_parts (Give given) next before after value h = (given, (refl, refl), h)
  given_parts (Refuse answer) next before after value (is, same) = absurd (cc)
  given_parts (ReadFile name limit more) next before after value (inl unread) = absurd unread
  given_parts (ReadFile name limit more) next before after value (inr (bytes, is_file, h)) =
      let parts = given_parts (more bytes) next before after value h in
      (parts.0, inr (bytes, is_file, parts.1), parts.2)
  given_parts (Choose P more) next before after value (choice, met, h) =
      let parts = given_parts (more choice) next before after value h in
      (parts.0, (choice, met, parts.1), parts.2)

  -- two plans that refused: the first did, or it gave a value and the second did
  pub refused_parts : (plan : Plan A) (next : A → Plan B) (before after : ShelfState) (answer : Answer) → Decides (and_then plan next) before after (Err answer)
      → Decides plan before after (Err answer) ⊎ ((first : A) × Decides plan before before (Ok first) × Decides (next first) before after (Err answer))
  refused_parts (Give given) next before after answer h = inr (given, (refl, refl), h)
  refused_parts (Refuse refusal) next before after answer (is, same) = let this : answer ≡ refusal = cc in inl (ap (λ (a : Answer). Err a) this, same)
  refused_parts (ReadFile name limit more) next before after answer (inl unread) = inl (inl unread)
  refused_parts (ReadFile name limit more) next before after answer (inr (bytes, is_file, h)) = elim (refused_parts (more bytes) next before after answer h) [
    | inl first ↦ inl (inr (bytes, is_file, first))
    | inr parts ↦ inr (parts.0, inr (bytes, is_file, parts.1), parts.2)
  ]
  refused_parts (Choose P more) next before after answer (choice, met, h) = elim (refused_parts (more choice) next before after answer h) [
    | inl first ↦ inl (choice, met, first)
    | inr parts ↦ inr (parts.0, (choice, met, parts.1), parts.2)
  ]

module _ {V F : Type 0} where
  -- what was accepted was found
  pub accepted_is : (found : Result V F) (refusal : F → Answer) (before after : ShelfState) (value : V) → Decides (accept found refusal) before after (Ok value) → found ≡ Ok value
  accepted_is (Ok other) refusal before after value (is, same) = let this : value ≡ other = cc in cc
  accepted_is (Err fault) refusal before after value (is, same) = absurd (cc)

  -- what was refused has a fault
  pub refused_is : (found : Result V F) (refusal : F → Answer) (before after : ShelfState) (answer : Answer) → Decides (accept found refusal) before after (Err answer)
      → (fault : F) × (found ≡ Err fault) × (answer ≡ refusal fault)
  refused_is (Ok other) refusal before after answer (is, same) = absurd (cc)
  refused_is (Err fault) refusal before after answer (is, same) = let this : answer ≡ refusal fault = cc in (fault, refl, this)

-- a file that was read
pub read_is : (name : List ℕ) (limit : ℕ) (before after : ShelfState) (bytes : List ℕ) → Decides (file name limit) before after (Ok bytes) → IsFile before name limit bytes
read_is name limit before after bytes (inl unread) = absurd unread
read_is name limit before after bytes (inr (found, is_file, (is, same))) = let this : bytes ≡ found = cc in rw this is_file

-- a file that was not read
pub unread_is : (name : List ℕ) (limit : ℕ) (before after : ShelfState) (answer : Answer) → Decides (file name limit) before after (Err answer) → Unread name limit before after answer
unread_is name limit before after answer (inl unread) = unread
unread_is name limit before after answer (inr (found, is_file, (is, same))) = absurd (cc)
