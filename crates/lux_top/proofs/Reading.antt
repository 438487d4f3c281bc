-- What a file says that was read and accepted, and why one is refused.
use Rattle.std.proofs.Common.{◌≡◌, ◌⊎◌, inl, inr, ℕ, List, Result, Ok, Err}
use Rattle.lux_io.specs.Shelves.{ShelfState, IsFile}
use Rattle.lux_answers.specs.declared.answers.Answer.{Answer}
use Rattle.lux_plans.specs.Plans.{Plan, Decides, Unread, accept, and_then, file}
use Rattle.lux_plans.proofs.Parts.{given_parts, refused_parts, accepted_is, refused_is, read_is, unread_is}

module _ {V F : Type 0} (name : List ℕ) (limit : ℕ) (found : List ℕ → Result V F) (refusal : F → Answer) (before after : ShelfState) where
  -- a file that is read and then accepted
  abbrev pub accept_file : Plan V
  accept_file = and_then (file name limit) (λ text. accept (found text) refusal)

  pub file_says : (value : V) → Decides accept_file before after (Ok value) → (text : List ℕ) × IsFile before name limit text × (found text ≡ Ok value)
  file_says value h =
      let parts = given_parts (file name limit) (λ text. accept (found text) refusal) before after value h in
      (parts.0, read_is name limit before before parts.0 parts.1, accepted_is (found parts.0) refusal before after value parts.2)

  pub file_refuses : (answer : Answer) → Decides accept_file before after (Err answer)
      → Unread name limit before after answer ⊎ ((text : List ℕ) × IsFile before name limit text × ((fault : F) × (found text ≡ Err fault) × (answer ≡ refusal fault)))
  file_refuses answer h = elim (refused_parts (file name limit) (λ text. accept (found text) refusal) before after answer h) [
    | inl first ↦ inl (unread_is name limit before after answer first)
    | inr parts ↦ inr (parts.0, read_is name limit before before parts.0 parts.1, refused_is (found parts.0) refusal before after answer parts.2)
  ]
