-- What a plan comes to that is made of two, from what the two come to.
use Rattle.std.proofs.Common.{◌≡◌, inl, inr, subst, ap, Result, Ok, Err}
use Rattle.lux_io.specs.Shelves.{ShelfState}
use Rattle.lux_answers.specs.declared.answers.Answer.{Answer}
use Rattle.lux_answers.specs.declared.answers.Answer.TheVariants.{Memory}
use Rattle.lux_plans.specs.Plans.{Plan, Give, Refuse, ReadFile, Choose, Decides, Takes, Gives, and_then}

-- a plan that gives a value leaves the shelf as it was
pub same_shelf : {A : Type 0} (plan : Plan A) (before after : ShelfState) (value : A) → Decides plan before after (Ok value) → after ≡ before
same_shelf (Give given) before after value h = h.1
same_shelf (Refuse answer) before after value h = h.1
same_shelf (ReadFile name limit more) before after value (inl unread) = absurd unread
same_shelf (ReadFile name limit more) before after value (inr (bytes, file, h)) = same_shelf (more bytes) before after value h
same_shelf (Choose P more) before after value (choice, met, h) = same_shelf (more choice) before after value h

module _ {A B : Type 0} where
  pub decides_then : (plan : Plan A) (next : A → Plan B) (before between after : ShelfState) (value : A) (result : Result B Answer) → Decides plan before between (Ok value) → Decides (next value) before after result → Decides (and_then plan next) before after result
  decides_then (Give given) next before between after value result (is, same) rest = let same : value ≡ given = cc in subst (λ (v : A). Decides (next v) before after result) same rest
  decides_then (Refuse answer) next before between after value result (is, same) rest = absurd (cc)
  decides_then (ReadFile name limit more) next before between after value result (inl unread) rest = absurd unread
  decides_then (ReadFile name limit more) next before between after value result (inr (bytes, file, h)) rest = inr (bytes, file, decides_then (more bytes) next before between after value result h rest)
  decides_then (Choose P more) next before between after value result (choice, met, h) rest = (choice, met, decides_then (more choice) next before between after value result h rest)

  pub decides_refused : (plan : Plan A) (next : A → Plan B) (before after : ShelfState) (answer : Answer) → Decides plan before after (Err answer) → Decides (and_then plan next) before after (Err answer)
  decides_refused (Give given) next before after answer (is, same) = absurd (cc)
  decides_refused (Refuse refusal) next before after answer (is, same) = let this : answer ≡ refusal = cc in (ap (λ (a : Answer). Err a) this, same)
  decides_refused (ReadFile name limit more) next before after answer (inl unread) = inl unread
  decides_refused (ReadFile name limit more) next before after answer (inr (bytes, file, h)) = inr (bytes, file, decides_refused (more bytes) next before after answer h)
  decides_refused (Choose P more) next before after answer (choice, met, h) = (choice, met, decides_refused (more choice) next before after answer h)

  -- a plan that refuses, whatever comes then
  pub takes_refused : (plan : Plan A) (next : A → Plan B) (before after : ShelfState) (answer : Answer) → Takes plan before after (Err answer) → Takes (and_then plan next) before after (Err answer)
  takes_refused plan next before after answer (inl h) = inl (decides_refused plan next before after answer h)
  takes_refused plan next before after answer (inr (memory, keeps)) = let same : answer ≡ Memory = cc in inr (ap (λ (a : Answer). Err a) same, keeps)

  -- a plan that gives a value, and then the plan for that value
  pub takes_then : (plan : Plan A) (next : A → Plan B) (before between after : ShelfState) (value : A) (result : Result B Answer) → Takes plan before between (Ok value) → Takes (next value) between after result → Takes (and_then plan next) before after result
  takes_then plan next before between after value result (inr (memory, keeps)) rest = absurd (cc)
  takes_then plan next before between after value result (inl given) rest = then_decided (subst (λ (s : ShelfState). Takes (next value) s after result) (same_shelf plan before between value given) rest)
    where
      then_decided : Takes (next value) before after result → Takes (and_then plan next) before after result
      then_decided (inl h) = inl (decides_then plan next before between after value result given h)
      then_decided (inr memory) = inr memory

  -- the same where the second reads nothing
  pub takes_gives : (plan : Plan A) (next : A → Plan B) (before after : ShelfState) (value : A) (result : Result B Answer) → Takes plan before after (Ok value) → Gives (next value) result → Takes (and_then plan next) before after result
  takes_gives plan next before after value result first rest = takes_then plan next before after after value result first (rest after)

  -- the same where neither reads
  pub gives_then : (plan : Plan A) (next : A → Plan B) (value : A) (result : Result B Answer) → Gives plan (Ok value) → Gives (next value) result → Gives (and_then plan next) result
  gives_then plan next value result first rest = λ shelf. takes_then plan next shelf shelf shelf value result (first shelf) (rest shelf)
