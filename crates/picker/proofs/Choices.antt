-- What the rules of picking choose.
use Rattle.std.proofs.Common.{◌≡◌, ℕ, ◌+◌, ◌-◌, ◌*◌, ◌/◌, ◌%◌, ◌<◌, ◌≤◌, ◌&&◌, cond, List, drop, take, Bool, true, false, eqb, ltb, leb, Option, None, Some, length, get_or, inl, inr, refl, sym, ap, subst, ◌∙◌, arith}
use Rattle.std.specs.Bool.{then_some}
use Rattle.std.specs.List.{position, position_or_len}
use Rattle.std.specs.Option.{option_map, option_or, MatchOption}
use Rattle.std.proofs.lemmas.Bool.{cases_lt, lt-ltb, eq-eqb, ne_eqb, and_from, and_left, and_right, cond-true, cond-false}
use Rattle.std.proofs.lemmas.Bool.Decides.{nat_tests}
use Rattle.std.proofs.Math.Nat.{mul-le-mul_right}
use Rattle.std.proofs.lemmas.Nat.{mod_below, mod-mul-add, div-add-mod'}
use Rattle.std.proofs.lemmas.List.{get_or-drop, get_or-take, get_or_append_left, get_or-append_right, length-append, length-drop, length-take-le}
use Rattle.std.proofs.lemmas.List.FromFn.{get_or-range_with_len, length-range_with_len}
use Rattle.std.proofs.lemmas.List.Sums.{position_or_len_is, fails_before_first, passes_at_first}
use Rattle.picker.specs.Greatest.{greatest_value}
use Rattle.picker.specs.Picks.{reaches, first_reaching, greatest_pick, sweep_start, turned, sweep_pick, places, first_in_stripe, striped_pick, IsPick}
use Rattle.picker.proofs.Maxima.{greatest_value-is, greatest_place-is, value_below, is_reached}

-- the first element that passes
pub position-found : {X : Type 0} (p : X → Bool) (xs : List X) (i : ℕ) (d : X) → i < length xs → p (get_or xs i d) ≡ true → ((k : ℕ) → k < i → p (get_or xs k d) ≡ false) → position p xs ≡ Some i
position-found p xs i d inside passes before =
    let at : position_or_len p xs ≡ i = position_or_len_is p xs i d (omega arith) before (λ _. passes) in
    let found : ltb (position_or_len p xs) (length xs) ≡ true = lt-ltb _ _ (omega arith) in
    cond-true _ _ _ found ∙ ap Some at

-- none passes
pub position-missing : {X : Type 0} (p : X → Bool) (xs : List X) (d : X) → ((k : ℕ) → k < length xs → p (get_or xs k d) ≡ false) → position p xs ≡ None
position-missing p xs d fails =
    let at : position_or_len p xs ≡ length xs = position_or_len_is p xs (length xs) d (omega arith) fails (λ l. absurd (omega arith)) in
    let missing : ltb (position_or_len p xs) (length xs) ≡ false = grind (arith, nat_tests) in
    cond-false _ _ _ missing

pub reaches-true : (t v : ℕ) → t ≤ v → reaches t v ≡ true
reaches-true t v h = grind (arith, nat_tests)

pub reaches-false : (t v : ℕ) → v < t → reaches t v ≡ false
reaches-false t v h = grind (arith, nat_tests)

some_where : (b : Bool) (i : ℕ) → then_some b i ≡ cond b (Some i) None
some_where true i = refl
some_where false i = refl

-- the first place of the greatest value, where it reaches the threshold
pub greatest_pick-is : (xs : List ℕ) (t b v : ℕ) → v ≡ get_or xs b 0 → b < length xs → ((k : ℕ) → k < length xs → get_or xs k 0 ≤ get_or xs b 0) → ((k : ℕ) → k < b → get_or xs k 0 < get_or xs b 0) → then_some (leb t v) b ≡ greatest_pick xs t
greatest_pick-is xs t b v at inside most first =
    let value = greatest_value-is xs b inside most in
    let place = greatest_place-is xs b inside most first in
    let some : ltb 0 (length xs) ≡ true = lt-ltb _ _ (omega arith) in
    let tests : leb t v ≡ (ltb 0 (length xs) && leb t (greatest_value xs)) = ap (leb t) (at ∙ value) ∙ sym (ap (λ (c : Bool). c && leb t (greatest_value xs)) some) in
    some_where (leb t v) b ∙ ap (λ (c : Bool). cond c (Some b) None) tests ∙ ap (λ (n : ℕ). cond (ltb 0 (length xs) && leb t (greatest_value xs)) (Some n) None) place

-- a place is a pick where its value reaches the threshold
pub IsPick-Some : (xs : List ℕ) (t i : ℕ) → i < length xs → t ≤ get_or xs i 0 → IsPick xs t (Some i)
IsPick-Some xs t i inside enough = ((inside, enough), tt)

-- no place is a pick where no value does
pub IsPick-None : (xs : List ℕ) (t : ℕ) → ((k : ℕ) → k < length xs → get_or xs k 0 < t) → IsPick xs t None
IsPick-None xs t short = (tt, short)

-- what the test answers
reached : (t v : ℕ) → reaches t v ≡ true → t ≤ v
reached t v h = grind (arith, nat_tests)

short_of : (t v : ℕ) → reaches t v ≡ false → v < t
short_of t v h = grind (arith, nat_tests)

-- between two places of a stripe there is none of it
pub next_in_stripe : (m k place i : ℕ) → place % m ≡ k → i % m ≡ k → place < i → place + m ≤ i
next_in_stripe m k place i of_place of_i after =
    let first : place / m * m + place % m ≡ place = div-add-mod' place m in
    let second : i / m * m + i % m ≡ i = div-add-mod' i m in
    elim (cases_lt (place / m) (i / m)) [
      | inl less ↦ let more : (place / m + 1) * m ≤ i / m * m = mul-le-mul_right m (omega arith) in omega arith
      | inr not ↦ let same : i / m * m ≤ place / m * m = mul-le-mul_right m not in absurd (omega arith)
    ]

-- the first that reaches it is a pick
pub IsPick-first_reaching : (xs : List ℕ) (t : ℕ) → IsPick xs t (first_reaching xs t)
IsPick-first_reaching xs t =
    let n : ℕ = position_or_len (reaches t) xs in
    elim (cases_lt n (length xs)) [
      | inl l ↦
          let is : first_reaching xs t ≡ Some n = cond-true _ _ _ (lt-ltb _ _ l) in
          subst (λ (r : Option ℕ). IsPick xs t r) (sym is) (IsPick-Some xs t n l (reached _ _ (passes_at_first (reaches t) xs 0 l)))
      | inr le ↦
          let missing : ltb n (length xs) ≡ false = grind (arith, nat_tests) in
          let is : first_reaching xs t ≡ None = cond-false _ _ _ missing in
          subst (λ (r : Option ℕ). IsPick xs t r) (sym is) (IsPick-None xs t (λ k h. short_of _ _ (fails_before_first (reaches t) xs k 0 (omega arith))))
    ]

-- no value reaches more than the greatest does
pub greatest_pick-none : (xs : List ℕ) (t : ℕ) → greatest_value xs < t → None ≡ greatest_pick xs t
greatest_pick-none xs t short =
    let test : (ltb 0 (length xs) && leb t (greatest_value xs)) ≡ false = and_right _ _ (reaches-false t (greatest_value xs) short) in
    sym (cond-false _ _ _ test)

-- the first that reaches the greatest value is its first place
pub greatest_pick-first : (xs : List ℕ) (t : ℕ) → t ≤ greatest_value xs → (first_reaching xs (greatest_value xs) ≡ greatest_pick xs t) × IsPick xs t (first_reaching xs (greatest_value xs))
greatest_pick-first xs t enough =
    let most : ℕ = greatest_value xs in
    let n : ℕ = position_or_len (reaches most) xs in
    elim (cases_lt n (length xs)) [
      | inl inside ↦
          let is : first_reaching xs most ≡ Some n = cond-true _ _ _ (lt-ltb _ _ inside) in
          let high = reached _ _ (passes_at_first (reaches most) xs 0 inside) in
          let low = value_below xs n inside in
          let at : most ≡ get_or xs n 0 = omega arith in
          let first = greatest_pick-is xs t n most at inside (λ k h. let below = value_below xs k h in omega arith) (λ k h. let short = short_of _ _ (fails_before_first (reaches most) xs k 0 (omega arith)) in omega arith) in
          let some : then_some (leb t most) n ≡ Some n = ap (λ (b : Bool). then_some b n) (reaches-true t most enough) in
          (is ∙ (sym some ∙ first), subst (λ (r : Option ℕ). IsPick xs t r) (sym is) (IsPick-Some xs t n inside (omega arith)))
      | inr past ↦
          let missing : ltb n (length xs) ≡ false = grind (arith, nat_tests) in
          let is : first_reaching xs most ≡ None = cond-false _ _ _ missing in
          let short : (k : ℕ) → k < length xs → get_or xs k 0 < most = λ k h. short_of _ _ (fails_before_first (reaches most) xs k 0 (omega arith)) in
          elim (cases_lt 0 (length xs)) [
            | inl some ↦ absurd (is_reached xs some short)
            | inr none ↦
                let first : ltb 0 (length xs) ≡ false = grind (arith, nat_tests) in
                let empty : (ltb 0 (length xs) && leb t most) ≡ false = and_left _ _ first in
                (is ∙ sym (cond-false _ _ _ empty), subst (λ (r : Option ℕ). IsPick xs t r) (sym is) (IsPick-None xs t (λ k h. absurd (omega arith))))
          ]
    ]

-- round past the end
round : (m n b : ℕ) → b < n → m ≡ n + b → m % n ≡ b
round m n b h is = let e : m ≡ 1 * n + b = omega arith in ap (λ (x : ℕ). x % n) e ∙ mod-mul-add 1 n b h

-- not past the end
straight : (m n : ℕ) → m < n → m % n ≡ m
straight m n h = let e : m ≡ 0 * n + m = omega arith in ap (λ (x : ℕ). x % n) e ∙ mod-mul-add 0 n m h

-- a sweep over values of which there are some
module _ (o : ℕ) (xs : List ℕ) (some : 0 < length xs) where
  start_inside : sweep_start o xs < length xs
  start_inside = mod_below o (length xs) some

  pub length-turned : length (turned o xs) ≡ length xs
  length-turned =
      let s : ℕ = sweep_start o xs in
      let inside = start_inside in
      let all = length-append (drop s xs) (take s xs) in
      let back = length-drop s xs in
      let front = length-take-le s xs (omega arith) in
      omega arith

  length-back : length (drop (sweep_start o xs) xs) ≡ length xs - sweep_start o xs
  length-back = length-drop (sweep_start o xs) xs

  -- the values up to the end
  turned-before_end : (i : ℕ) → sweep_start o xs + i < length xs → get_or (turned o xs) i 0 ≡ get_or xs (sweep_start o xs + i) 0
  turned-before_end i h =
      let s : ℕ = sweep_start o xs in
      let back = length-back in
      get_or_append_left (drop s xs) (take s xs) 0 i (omega arith) ∙ get_or-drop s xs i 0

  -- and those that follow past it
  turned-past_end : (i j : ℕ) → sweep_start o xs + i ≡ length xs + j → j < sweep_start o xs → get_or (turned o xs) i 0 ≡ get_or xs j 0
  turned-past_end i j is h =
      let s : ℕ = sweep_start o xs in
      let inside = start_inside in
      let back = length-back in
      let at : i - (length xs - s) ≡ j = omega arith in
      get_or-append_right (drop s xs) (take s xs) (length xs - s) i 0 back (omega arith) ∙ ap (λ (k : ℕ). get_or (take s xs) k 0) at ∙ get_or-take s xs j 0 h

  pub IsPick-round : (t : ℕ) (r : Option ℕ) → IsPick (turned o xs) t r → IsPick xs t (option_map (λ place. (sweep_start o xs + place) % length xs) r)
  IsPick-round t (Some i) pick =
      let s : ℕ = sweep_start o xs in
      let inside = start_inside in
      let long = length-turned in
      let enough = pick.0.1 in
      let within = pick.0.0 in
      elim (cases_lt (s + i) (length xs)) [
        | inl l ↦
            let same = turned-before_end i l in
            let at = straight (s + i) (length xs) l in
            subst (λ (p : ℕ). IsPick xs t (Some p)) (sym at) (IsPick-Some xs t (s + i) l (omega arith))
        | inr le ↦
            let j : ℕ = s + i - length xs in
            let same = turned-past_end i j (omega arith) (omega arith) in
            let at = round (s + i) (length xs) j (omega arith) (omega arith) in
            subst (λ (p : ℕ). IsPick xs t (Some p)) (sym at) (IsPick-Some xs t j (omega arith) (omega arith))
      ]
  IsPick-round t None pick =
      let s : ℕ = sweep_start o xs in
      let inside = start_inside in
      let long = length-turned in
      IsPick-None xs t (λ k h. elim (cases_lt k s) [
        | inl l ↦
            let i : ℕ = length xs + k - s in
            let same = turned-past_end i k (omega arith) l in
            let short = pick.1 i (omega arith) in
            omega arith
        | inr le ↦
            let i : ℕ = k - s in
            let at : s + i ≡ k = omega arith in
            let same = turned-before_end i (omega arith) in
            let there = ap (λ (m : ℕ). get_or xs m 0) at in
            let short = pick.1 i (omega arith) in
            omega arith
      ])

  pub IsPick-sweep : (t : ℕ) → IsPick xs t (sweep_pick o xs t)
  IsPick-sweep t = IsPick-round t (first_reaching (turned o xs) t) (IsPick-first_reaching (turned o xs) t)

-- a place in the stripe whose value reaches the threshold
abbrev stripe_test : ℕ → ℕ → List ℕ → ℕ → ℕ → Bool
stripe_test k m xs t place = eqb (place % m) k && reaches t (get_or xs place 0)

stripe_test-false : (k m : ℕ) (xs : List ℕ) (t j : ℕ) → (j % m ≡ k → get_or xs j 0 < t) → stripe_test k m xs t j ≡ false
stripe_test-false k m xs t j short = elim (cases_lt (j % m) k) [
  | inl l ↦ and_left _ _ (ne_eqb (j % m) k (λ (e : j % m ≡ k). omega arith))
  | inr le ↦ elim (cases_lt k (j % m)) [
    | inl l ↦ and_left _ _ (ne_eqb (j % m) k (λ (e : j % m ≡ k). omega arith))
    | inr ge ↦ and_right _ _ (reaches-false _ _ (short (omega arith)))
  ]
]

module _ (k m : ℕ) (xs : List ℕ) (t : ℕ) where
  place_at : (j : ℕ) → j < length xs → get_or (places xs) j 0 ≡ j
  place_at j h = let at = get_or-range_with_len 0 (length xs) j 0 h in omega arith

  fails_at : (j : ℕ) → j < length xs → (j % m ≡ k → get_or xs j 0 < t) → stripe_test k m xs t (get_or (places xs) j 0) ≡ false
  fails_at j h short = ap (stripe_test k m xs t) (place_at j h) ∙ stripe_test-false k m xs t j short

  -- this place is in the stripe and its value reaches the threshold, and none before it is so
  pub striped_pick-inside : (i : ℕ) → i < length xs → i % m ≡ k → t ≤ get_or xs i 0 → ((j : ℕ) → j < i → j % m ≡ k → get_or xs j 0 < t) → Some i ≡ striped_pick k m xs t
  striped_pick-inside i inside stripe enough short =
      let long = length-range_with_len 0 (length xs) in
      let passes : stripe_test k m xs t (get_or (places xs) i 0) ≡ true = ap (stripe_test k m xs t) (place_at i inside) ∙ and_from _ _ (eq-eqb _ _ stripe) (reaches-true _ _ enough) in
      let is : first_in_stripe k m xs t ≡ Some i = position-found (stripe_test k m xs t) (places xs) i 0 (omega arith) passes (λ j h. fails_at j (omega arith) (short j h)) in
      sym (ap (λ (r : Option ℕ). option_or r (first_reaching xs t)) is)

  -- the first of n values that reaches the threshold, where n is their number
  pub first_reaching-is : (r : Option ℕ) (n : ℕ) → n ≡ length xs → MatchOption r ((i : ℕ) → i < n → get_or xs i 0 < t) (λ first. (first < n) × (t ≤ get_or xs first 0) × ((i : ℕ) → i < first → get_or xs i 0 < t)) → r ≡ first_reaching xs t
  first_reaching-is None n all short = sym (position-missing (reaches t) xs 0 (λ i h. reaches-false _ _ (short i (omega arith))))
  first_reaching-is (Some i) n all (inside, enough, short) = sym (position-found (reaches t) xs i 0 (omega arith) (reaches-true _ _ enough) (λ j h. reaches-false _ _ (short j h)))

  -- no value of the stripe reaches it
  pub striped_pick-outside : (r : Option ℕ) → ((j : ℕ) → j < length xs → j % m ≡ k → get_or xs j 0 < t) → r ≡ first_reaching xs t → r ≡ striped_pick k m xs t
  striped_pick-outside r short is =
      let long = length-range_with_len 0 (length xs) in
      let none : first_in_stripe k m xs t ≡ None = position-missing (stripe_test k m xs t) (places xs) 0 (λ j h. fails_at j (omega arith) (short j (omega arith))) in
      is ∙ sym (ap (λ (o : Option ℕ). option_or o (first_reaching xs t)) none)
