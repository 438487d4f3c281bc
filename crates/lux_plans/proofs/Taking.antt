-- What parts of a plan that read nothing come to.
use Rattle.std.proofs.Common.{◌≡◌, inl, inr, refl, arith, Result, Ok, Err}
use Rattle.lux_io.specs.Shelves.{ShelfState}
use Rattle.lux_answers.specs.declared.answers.Answer.{Answer}
use Rattle.lux_answers.specs.declared.answers.Answer.TheVariants.{Memory}
use Rattle.lux_plans.specs.Plans.{Plan, Refuse, Keeps, Takes, Gives, accept}

-- a shelf that is as it was
keeps_all : (shelf : ShelfState) → Keeps shelf shelf
keeps_all shelf = record { files = refl; faults = omega arith; overlong = omega arith }

-- want of memory comes at any moment
pub takes_memory : {A : Type 0} (plan : Plan A) (shelf : ShelfState) → Takes plan shelf shelf (Err Memory)
takes_memory plan shelf = inr (refl, keeps_all shelf)

pub takes_refuse : {A : Type 0} (answer : Answer) (shelf : ShelfState) → Takes {A = A} (Refuse answer) shelf shelf (Err answer)
takes_refuse answer shelf = inl (refl, refl)

-- a value that was found, or the answer for its fault
pub gives_ok : {V F : Type 0} (found : Result V F) (refusal : F → Answer) (value : V) → found ≡ Ok value → Gives (accept found refusal) (Ok value)
gives_ok found refusal value is = λ shelf. rw is (inl (refl, refl))

pub gives_err : {V F : Type 0} (found : Result V F) (refusal : F → Answer) (fault : F) → found ≡ Err fault → Gives (accept found refusal) (Err (refusal fault))
gives_err found refusal fault is = λ shelf. rw is (inl (refl, refl))
