-- What a plan of the same step for some values comes to, one value after another.
use Rattle.std.proofs.Common.{◌≡◌, inl, inr, ℕ, zero, suc, ◌+◌, ◌<◌, List, [], ◌∷◌, ◌++◌, length, take, get_or, refl, subst, sym, ap, ◌∙◌, add-one, Some, Ok, Err}
use Rattle.std.specs.Prelude.{slice_get}
use Rattle.std.proofs.lemmas.Option.{slice_get-get_or}
use Rattle.lux_io.specs.Shelves.{ShelfState}
use Rattle.lux_answers.specs.declared.answers.Answer.{Answer}
use Rattle.lux_answers.specs.declared.answers.Answer.TheVariants.{Memory}
use Rattle.lux_plans.specs.Plans.{Plan, Give, Decides, Takes, and_then, each}
use Rattle.lux_plans.proofs.Chains.{same_shelf, decides_then, decides_refused}
use Rattle.lux_plans.proofs.Parts.{given_parts, refused_parts}

-- the element at a place
pub stands_at : {X : Type 0} (xs : List X) (k : ℕ) (x : X) → k < length xs → x ≡ get_or xs k x → slice_get xs k ≡ Some x
stands_at xs k x inside is = slice_get-get_or xs k x inside ∙ ap (λ y. Some y) (sym is)

module _ {A B : Type 0} (step : A → Plan B) where
  -- the rest of the plan, once the first step gave this
  abbrev rest_of : List A → B → Plan (List B)
  rest_of values first = and_then (each step values) (λ others. Give (first ∷ others))

  -- the first step gave a value, and the others gave theirs
  pub first_given : (value : A) (values : List A) (before after : ShelfState) (results : List B) → Decides (each step (value ∷ values)) before after (Ok results)
      → (first : B) × (others : List B) × (results ≡ first ∷ others) × Decides (step value) before before (Ok first) × Decides (each step values) before before (Ok others)
  first_given value values before after results h =
      let outer = given_parts (step value) (rest_of values) before after results h in
      let inner = given_parts (each step values) (λ others. Give (outer.0 ∷ others)) before after results outer.2 in
      let this : results ≡ outer.0 ∷ inner.0 = cc in
      (outer.0, inner.0, this, outer.1, inner.1)

  -- so many steps gave their values, as many as there are
  pub as_many : (values : List A) (before after : ShelfState) (results : List B) → Decides (each step values) before after (Ok results) → length results ≡ length values
  as_many [] before after results (is, same) = let this : results ≡ [] = cc in rw this refl
  as_many (value ∷ values) before after results h =
      let parts = first_given value values before after results h in
      rw parts.2 (ap suc (as_many values before before parts.1 parts.4))

  -- a step more
  pub one_more : (values : List A) (k : ℕ) (value : A) (shelf : ShelfState) (results : List B) (result : B) → slice_get values k ≡ Some value
      → Decides (each step (take k values)) shelf shelf (Ok results) → Decides (step value) shelf shelf (Ok result)
      → Decides (each step (take (k + 1) values)) shelf shelf (Ok (results ++ result ∷ []))
  one_more [] k value shelf results result here done h = absurd (cc)
  one_more (first ∷ values) zero value shelf results result here (is, same) h =
      let none : results ≡ [] = cc in
      let this : first ≡ value = cc in
      rw (none, this) (decides_then (step value) (rest_of []) shelf shelf shelf result (Ok (result ∷ [])) h (refl, refl))
  one_more (first ∷ values) (suc k) value shelf results result here done h =
      let parts = first_given first (take k values) shelf shelf results done in
      let more = one_more values k value shelf parts.1 result here parts.4 h in
      rw (add-one, parts.2) (decides_then (step first) (rest_of (take (suc k) values)) shelf shelf shelf parts.0 (Ok (parts.0 ∷ (parts.1 ++ result ∷ []))) parts.3
      (decides_then (each step (take (suc k) values)) (λ others. Give (parts.0 ∷ others)) shelf shelf shelf (parts.1 ++ result ∷ []) (Ok (parts.0 ∷ (parts.1 ++ result ∷ []))) (rw add-one at more) (refl, refl)))

  -- a step that refused
  pub next_refused : (values : List A) (k : ℕ) (value : A) (before after : ShelfState) (results : List B) (answer : Answer) → slice_get values k ≡ Some value
      → Decides (each step (take k values)) before before (Ok results) → Decides (step value) before after (Err answer) → Decides (each step values) before after (Err answer)
  next_refused [] k value before after results answer here done h = absurd (cc)
  next_refused (first ∷ values) zero value before after results answer here done h =
      let this : first ≡ value = cc in rw this (decides_refused (step value) (rest_of values) before after answer h)
  next_refused (first ∷ values) (suc k) value before after results answer here done h =
      let parts = first_given first (take k values) before before results done in
      decides_then (step first) (rest_of values) before before after parts.0 (Err answer) parts.3
      (decides_refused (each step values) (λ others. Give (parts.0 ∷ others)) before after answer (next_refused values k value before after parts.1 answer here parts.4 h))

  -- where it was refused
  pub refused_step : (values : List A) (before after : ShelfState) (answer : Answer) → Decides (each step values) before after (Err answer)
      → (k : ℕ) × (value : A) × (results : List B) × (slice_get values k ≡ Some value) × Decides (each step (take k values)) before before (Ok results) × Decides (step value) before after (Err answer)
  refused_step [] before after answer (is, same) = absurd (cc)
  refused_step (value ∷ values) before after answer h = elim (refused_parts (step value) (rest_of values) before after answer h) [
    | inl first ↦ (0, value, [], refl, (refl, refl), first)
    | inr parts ↦ elim (refused_parts (each step values) (λ others. Give (parts.0 ∷ others)) before after answer parts.2) [
      | inl later ↦
          let at = refused_step values before after answer later in (
            suc at.0,
            at.1,
            parts.0 ∷ at.2,
            at.3,
            decides_then (step value) (rest_of (take at.0 values)) before before before parts.0 (Ok (parts.0 ∷ at.2)) parts.1
                (decides_then (each step (take at.0 values)) (λ others. Give (parts.0 ∷ others)) before before before at.2 (Ok (parts.0 ∷ at.2)) at.4 (refl, refl)),
            at.5,
          )
      | inr more ↦ absurd (cc)
    ]
  ]

  -- the next step was refused, where the shelf before it was as at first
  pub takes_next_refused : (values : List A) (k : ℕ) (value : A) (before between after : ShelfState) (results : List B) (answer : Answer) → between ≡ before → slice_get values k ≡ Some value
      → Decides (each step (take k values)) before before (Ok results) → Takes (step value) between after (Err answer) → Takes (each step values) before after (Err answer)
  takes_next_refused values k value before between after results answer same here done taken = refused_by (subst (λ (s : ShelfState). Takes (step value) s after (Err answer)) same taken)
    where
      refused_by : Takes (step value) before after (Err answer) → Takes (each step values) before after (Err answer)
      refused_by (inl h) = inl (next_refused values k value before after results answer here done h)
      refused_by (inr (memory, keeps)) = let same : answer ≡ Memory = cc in inr (ap (λ (a : Answer). Err a) same, keeps)

  -- a step more gave its value, where the shelf before it was as at first
  pub takes_one_more : (values : List A) (k : ℕ) (value : A) (before between after : ShelfState) (results : List B) (result : B) → between ≡ before → slice_get values k ≡ Some value
      → Decides (each step (take k values)) before before (Ok results) → Takes (step value) between after (Ok result)
      → (after ≡ before) × Decides (each step (take (k + 1) values)) before before (Ok (results ++ result ∷ []))
  takes_one_more values k value before between after results result same here done taken = given_by (subst (λ (s : ShelfState). Takes (step value) s after (Ok result)) same taken)
    where
      given_by : Takes (step value) before after (Ok result) → (after ≡ before) × Decides (each step (take (k + 1) values)) before before (Ok (results ++ result ∷ []))
      given_by (inl h) =
          let as_it_was = same_shelf (step value) before after result h in
          (as_it_was, one_more values k value before results result here done (subst (λ (s : ShelfState). Decides (step value) before s (Ok result)) as_it_was h))
      given_by (inr (memory, keeps)) = absurd (cc)

  pub takes_as_many : (values : List A) (before after : ShelfState) (results : List B) → Takes (each step values) before after (Ok results) → length results ≡ length values
  takes_as_many values before after results (inl h) = as_many values before after results h
  takes_as_many values before after results (inr (memory, keeps)) = absurd (cc)
