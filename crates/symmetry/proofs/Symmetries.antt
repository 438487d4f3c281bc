-- What each symmetry appends is the whole web.
use Rattle.std.proofs.Common.{◌≡◌, ℕ, ◌+◌, ◌-◌, ◌<◌, ◌≤◌, true, inl, inr, List, [], ◌∷◌, ◌++◌, length, map, Option, Some, None, refl, sym, ap, ◌∙◌, arith}
use Rattle.std.specs.Prelude.{slice_index, unwrap_or}
use Rattle.std.specs.List.{range_with_len, flat_map}
use Rattle.std.specs.List.Sorted.{IsStrictlyIncreasing}
use Rattle.std.proofs.lemmas.Bool.{eqb-true, ne_eqb, and_parts, leb-true, cases_lt}
use Rattle.std.proofs.lemmas.Bool.Decides.{nat_tests}
use Rattle.photo_web.specs.declared.photometry.SymKind.TheVariants.{Axis, Quadrant, Plane0, Plane90, Full}
use Rattle.photo_web.specs.Web.{row_values}
use Rattle.symmetry.specs.Images.{has_span, stored_place, source}
use Rattle.symmetry.specs.Growth.{IsGrown}
use Rattle.laws.proofs.Rising.{rising_lt, rising_le}
use Rattle.symmetry.proofs.Lists.{two_of, position_none}
use Rattle.symmetry.proofs.Images.{TellsBack, closes, hit_plane, hit_place, hit_source, gap, miss, full, plane0_first, plane0_second, quadrant_first, quadrant_second, quadrant_third, quadrant_fourth, plane90_first, plane90_second, plane90_third, plane90_end}
use Rattle.symmetry.proofs.Growth.{grown_hit, grown_skip}
use Rattle.symmetry.proofs.Ways.{rises, falls}

-- the lists that rising and falling append
abbrev pub risen : List ℕ → ℕ → ℕ → ℕ → List ℕ
risen stored from to turn = map (λ i. turn + slice_index stored (from + i)) (range_with_len 0 (to - from))

abbrev pub risen_rows : ℕ → List ℕ → ℕ → ℕ → List ℕ
risen_rows width stored_values from to = flat_map (λ i. row_values width stored_values (from + i)) (range_with_len 0 (to - from))

abbrev pub fallen : List ℕ → ℕ → ℕ → ℕ → List ℕ
fallen stored from to total = map (λ i. total - slice_index stored (to - 1 - i)) (range_with_len 0 (to - from))

abbrev pub fallen_rows : ℕ → List ℕ → ℕ → ℕ → List ℕ
fallen_rows width stored_values from to = flat_map (λ i. row_values width stored_values (to - 1 - i)) (range_with_len 0 (to - from))

-- the second of two options, where the first is nothing
unwrapped : (o other : Option ℕ) (k : ℕ) → o ≡ None → other ≡ Some k → unwrap_or o (unwrap_or other 0) ≡ k
unwrapped o other k none some = (λ i. unwrap_or (none i) (unwrap_or (some i) 0))

module _ (stored : List ℕ) (up : IsStrictlyIncreasing stored) (stored_values : List ℕ) (width : ℕ) where
  -- a half turn and its mirror image
  module _ (span : has_span Plane0 stored ≡ true) where
    start0 : slice_index stored 0 ≡ 0
    start0 = eqb-true _ _ (and_parts _ _ span).0

    end0 : slice_index stored (length stored - 1) ≡ 180000
    end0 = eqb-true _ _ (and_parts _ _ span).1

    pub two0 : 2 ≤ length stored
    two0 = two_of stored 0 180000 (omega arith) start0 end0

    pub most0 : (j : ℕ) → j < length stored → slice_index stored j ≤ 180000
    most0 j h = let le = rising_le stored up j (length stored - 1) (omega arith) (omega arith) in let e = end0 in omega arith

    forth0 : TellsBack Plane0 stored 0 180000 (λ a. a - 0)
    forth0 = record { only = λ a j l h i. plane0_first (slice_index stored j) a (most0 j i) h }

    back0 : TellsBack Plane0 stored 180000 360000 (λ a. 360000 - a)
    back0 = record { only = λ a j l h i. plane0_second (slice_index stored j) a (most0 j i) l h }

    pub plane0_grown : (p v p1 v1 p2 v2 : List ℕ) → p1 ≡ p ++ risen stored 0 (length stored) 0 → v1 ≡ v ++ risen_rows width stored_values 0 (length stored) → p2 ≡ p1 ++ fallen stored 0 (length stored - 1) 360000 → v2 ≡ v1 ++ fallen_rows width stored_values 0 (length stored - 1) → IsGrown 0 Plane0 stored stored_values width p v → IsGrown 360001 Plane0 stored stored_values width p2 v2
    plane0_grown p v p1 v1 p2 v2 e1 f1 e2 f2 grown =
        let s = start0 in
        let e = end0 in
        let two = two0 in
        let turn = rising_lt stored up (length stored - 1 - 1) (length stored - 1) (omega arith) (omega arith) in
        falls Plane0 stored up stored_values width 180000 360000 360000 back0 (omega arith) 0 (length stored - 1) (omega arith) (λ k h. let m = most0 k (omega arith) in omega arith) (λ _. omega arith) (λ _. omega arith)
        180001 360001 p1 v1 p2 v2 (λ _. omega arith)
        (λ a _ l h. gap Plane0 stored up 180000 360000 (λ a. 360000 - a) back0 a (length stored - 1 - 1) (omega arith) (omega arith) (omega arith) (omega arith) (omega arith) (let at : (length stored - 1 - 1) + 1 ≡ length stored - 1 = omega arith in let same = ap (slice_index stored) at in omega arith))
        (λ _. omega arith) (λ h. absurd (omega arith)) e2 f2
        (rises Plane0 stored up stored_values width 0 180000 0 forth0 (omega arith) 0 (length stored) (omega arith) (omega arith) (omega arith) (omega arith)
        0 180001 p v p1 v1 (omega arith) (λ a l h. absurd (omega arith)) (omega arith) e1 f1 grown)

  -- a quarter turn and its three mirror images
  module _ (span : has_span Quadrant stored ≡ true) where
    start_q : slice_index stored 0 ≡ 0
    start_q = eqb-true _ _ (and_parts _ _ span).0

    end_q : slice_index stored (length stored - 1) ≡ 90000
    end_q = eqb-true _ _ (and_parts _ _ span).1

    pub two_q : 2 ≤ length stored
    two_q = two_of stored 0 90000 (omega arith) start_q end_q

    pub most_q : (j : ℕ) → j < length stored → slice_index stored j ≤ 90000
    most_q j h = let le = rising_le stored up j (length stored - 1) (omega arith) (omega arith) in let e = end_q in omega arith

    first_q : TellsBack Quadrant stored 0 90000 (λ a. a - 0)
    first_q = record { only = λ a j l h i. quadrant_first (slice_index stored j) a (most_q j i) h }

    second_q : TellsBack Quadrant stored 90000 180000 (λ a. 180000 - a)
    second_q = record { only = λ a j l h i. quadrant_second (slice_index stored j) a (most_q j i) l h }

    third_q : TellsBack Quadrant stored 180000 270000 (λ a. a - 180000)
    third_q = record { only = λ a j l h i. quadrant_third (slice_index stored j) a (most_q j i) l h }

    fourth_q : TellsBack Quadrant stored 270000 360000 (λ a. 360000 - a)
    fourth_q = record { only = λ a j l h i. quadrant_fourth (slice_index stored j) a (most_q j i) l h }

    last_q : slice_index stored (length stored - 1 - 1) < 90000
    last_q = let two = two_q in let e = end_q in let lt = rising_lt stored up (length stored - 1 - 1) (length stored - 1) (omega arith) (omega arith) in omega arith

    next_q : slice_index stored ((length stored - 1 - 1) + 1) ≡ 90000
    next_q = let two = two_q in ap (slice_index stored) (let at : (length stored - 1 - 1) + 1 ≡ length stored - 1 = omega arith in at) ∙ end_q

    half_q : (p v p1 v1 p2 v2 : List ℕ) → p1 ≡ p ++ risen stored 0 (length stored) 0 → v1 ≡ v ++ risen_rows width stored_values 0 (length stored) → p2 ≡ p1 ++ fallen stored 0 (length stored - 1) 180000 → v2 ≡ v1 ++ fallen_rows width stored_values 0 (length stored - 1) → IsGrown 0 Quadrant stored stored_values width p v → IsGrown 180001 Quadrant stored stored_values width p2 v2
    half_q p v p1 v1 p2 v2 e1 f1 e2 f2 grown =
        let s = start_q in
        let e = end_q in
        let two = two_q in
        let turn = last_q in
        let next = next_q in
        falls Quadrant stored up stored_values width 90000 180000 180000 second_q (omega arith) 0 (length stored - 1) (omega arith) (λ k h. let m = most_q k (omega arith) in omega arith) (λ _. omega arith) (λ _. omega arith)
        90001 180001 p1 v1 p2 v2 (λ _. omega arith)
        (λ a _ l h. gap Quadrant stored up 90000 180000 (λ a. 180000 - a) second_q a (length stored - 1 - 1) (omega arith) (omega arith) (omega arith) (omega arith) (omega arith) (omega arith))
        (λ _. omega arith) (λ h. absurd (omega arith)) e2 f2
        (rises Quadrant stored up stored_values width 0 90000 0 first_q (omega arith) 0 (length stored) (omega arith) (omega arith) (omega arith) (omega arith)
        0 90001 p v p1 v1 (omega arith) (λ a l h. absurd (omega arith)) (omega arith) e1 f1 grown)

    pub quadrant_grown : (p v p1 v1 p2 v2 p3 v3 p4 v4 : List ℕ) → p1 ≡ p ++ risen stored 0 (length stored) 0 → v1 ≡ v ++ risen_rows width stored_values 0 (length stored) → p2 ≡ p1 ++ fallen stored 0 (length stored - 1) 180000 → v2 ≡ v1 ++ fallen_rows width stored_values 0 (length stored - 1) → p3 ≡ p2 ++ risen stored 1 (length stored) 180000 → v3 ≡ v2 ++ risen_rows width stored_values 1 (length stored) → p4 ≡ p3 ++ fallen stored 0 (length stored - 1) 360000 → v4 ≡ v3 ++ fallen_rows width stored_values 0 (length stored - 1) → IsGrown 0 Quadrant stored stored_values width p v → IsGrown 360001 Quadrant stored stored_values width p4 v4
    quadrant_grown p v p1 v1 p2 v2 p3 v3 p4 v4 e1 f1 e2 f2 e3 f3 e4 f4 grown =
        let s = start_q in
        let e = end_q in
        let two = two_q in
        let turn = last_q in
        let next = next_q in
        let second = rising_lt stored up 0 1 (omega arith) (omega arith) in
        let most1 = most_q 1 (omega arith) in
        falls Quadrant stored up stored_values width 270000 360000 360000 fourth_q (omega arith) 0 (length stored - 1) (omega arith) (λ k h. let m = most_q k (omega arith) in omega arith) (λ _. omega arith) (λ _. omega arith)
        270001 360001 p3 v3 p4 v4 (λ _. omega arith)
        (λ a _ l h. gap Quadrant stored up 270000 360000 (λ a. 360000 - a) fourth_q a (length stored - 1 - 1) (omega arith) (omega arith) (omega arith) (omega arith) (omega arith) (omega arith))
        (λ _. omega arith) (λ h. absurd (omega arith)) e4 f4
        (rises Quadrant stored up stored_values width 180000 270000 180000 third_q (omega arith) 1 (length stored) (omega arith) (omega arith) (omega arith) (omega arith)
        180001 270001 p2 v2 p3 v3 (omega arith)
        (λ a l h. gap Quadrant stored up 180000 270000 (λ a. a - 180000) third_q a 0 (omega arith) (omega arith) (omega arith) (omega arith) (omega arith) (omega arith))
        (omega arith) e3 f3 (half_q p v p1 v1 p2 v2 e1 f1 e2 f2 grown))

  -- one plane, at both ends of the turn
  module _ (span : has_span Axis stored ≡ true) where
    pub one_a : length stored ≡ 1
    one_a = eqb-true _ _ (and_parts _ _ span).0

    all_a : (j : ℕ) → j < length stored → slice_index stored j ≡ 0
    all_a j h = let one = one_a in let at : j ≡ 0 = omega arith in ap (slice_index stored) at ∙ eqb-true _ _ (and_parts _ _ span).1

    low_a : TellsBack Axis stored 0 0 (λ a. a)
    low_a = record { only = λ a j l h i. let e = all_a j i in rw e (grind (arith, nat_tests)) }

    between_a : TellsBack Axis stored 1 359999 (λ _. 1)
    between_a = record { only = λ a j l h i. let e = all_a j i in rw e (grind (arith, nat_tests)) }

    high_a : TellsBack Axis stored 360000 360000 (λ _. 0)
    high_a = record { only = λ a j l h i. let e = all_a j i in rw e (grind (arith, nat_tests)) }

    pub axis_grown : (p v p1 v1 p2 v2 : List ℕ) → p1 ≡ p ++ 0 ∷ [] → v1 ≡ v ++ row_values width stored_values 0 → p2 ≡ p1 ++ 360000 ∷ [] → v2 ≡ v1 ++ row_values width stored_values 0 → IsGrown 0 Axis stored stored_values width p v → IsGrown 360001 Axis stored stored_values width p2 v2
    axis_grown p v p1 v1 p2 v2 e1 f1 e2 f2 grown =
        let one = one_a in
        let zero_is = all_a 0 (omega arith) in
        grown_hit Axis stored stored_values width 360000 0 p1 v1 p2 v2
        (hit_plane Axis stored up 360000 360000 (λ _. 0) high_a 360000 0 (omega arith) (omega arith) (omega arith) (sym zero_is))
        (hit_place Axis stored up 360000 360000 (λ _. 0) high_a 360000 0 (omega arith) (omega arith) (omega arith) (sym zero_is)) e2 f2
        (grown_skip Axis stored stored_values width 1 360000 p1 v1 (omega arith) (λ a l h. miss Axis stored up 1 359999 (λ _. 1) between_a a l (omega arith) h (λ j i same. let z = all_a j i in omega arith))
        (grown_hit Axis stored stored_values width 0 0 p v p1 v1
        (hit_plane Axis stored up 0 0 (λ a. a) low_a 0 0 (omega arith) (omega arith) (omega arith) (sym zero_is))
        (hit_place Axis stored up 0 0 (λ a. a) low_a 0 0 (omega arith) (omega arith) (omega arith) (sym zero_is)) e1 f1 grown))

  -- all planes
  module _ (some : 1 ≤ length stored) (span : has_span Full stored ≡ true) where
    start_f : slice_index stored 0 ≡ 0
    start_f = eqb-true _ _ (and_parts _ _ span).0

    end_f : slice_index stored (length stored - 1) ≤ 360000
    end_f = leb-true (slice_index stored (length stored - 1)) 360000 (and_parts _ _ span).1

    pub most_f : (j : ℕ) → j < length stored → slice_index stored j ≤ 360000
    most_f j h = let le = rising_le stored up j (length stored - 1) (omega arith) (omega arith) in let e = end_f in omega arith

    all_f : TellsBack Full stored 0 360000 (λ a. a - 0)
    all_f = record { only = λ a j l h i. full (slice_index stored j) a }

    pub full_risen : (m : ℕ) (p v p1 v1 : List ℕ) → m ≡ slice_index stored (length stored - 1) + 1 → p1 ≡ p ++ risen stored 0 (length stored) 0 → v1 ≡ v ++ risen_rows width stored_values 0 (length stored) → IsGrown 0 Full stored stored_values width p v → IsGrown m Full stored stored_values width p1 v1
    full_risen m p v p1 v1 end e1 f1 grown =
        let s = start_f in
        let most = most_f (length stored - 1) (omega arith) in
        rises Full stored up stored_values width 0 360000 0 all_f (omega arith) 0 (length stored) some (omega arith) (omega arith) (omega arith)
        0 m p v p1 v1 (omega arith) (λ a l h. absurd (omega arith)) (omega arith) e1 f1 grown

    pub full_closed : slice_index stored (length stored - 1) < 360000 → (p v p1 v1 p2 v2 : List ℕ) → p1 ≡ p ++ risen stored 0 (length stored) 0 → v1 ≡ v ++ risen_rows width stored_values 0 (length stored) → p2 ≡ p1 ++ 360000 ∷ [] → v2 ≡ v1 ++ row_values width stored_values 0 → IsGrown 0 Full stored stored_values width p v → IsGrown 360001 Full stored stored_values width p2 v2
    full_closed ends p v p1 v1 p2 v2 e1 f1 e2 f2 grown =
        let s = start_f in
        grown_hit Full stored stored_values width 360000 0 p1 v1 p2 v2 (closes Full stored)
        (unwrapped (source Full stored 360000) (source Full stored 0) 0 (position_none _ stored (λ j h. let le = rising_le stored up j (length stored - 1) (omega arith) (omega arith) in full (slice_index stored j) 360000 ∙ ne_eqb _ _ (λ same. omega arith)))
        (hit_source Full stored up 0 360000 (λ a. a - 0) all_f 0 0 (omega arith) (omega arith) (omega arith) (omega arith))) e2 f2
        (grown_skip Full stored stored_values width (slice_index stored (length stored - 1) + 1) 360000 p1 v1 (omega arith)
        (λ a l h. miss Full stored up 0 360000 (λ a. a - 0) all_f a (omega arith) (omega arith) h (λ j i same. let le = rising_le stored up j (length stored - 1) (omega arith) (omega arith) in omega arith))
        (full_risen (slice_index stored (length stored - 1) + 1) p v p1 v1 refl e1 f1 grown))

  -- a half turn from 90 degrees
  module _ (span : has_span Plane90 stored ≡ true) where
    start_h : slice_index stored 0 ≡ 90000
    start_h = eqb-true _ _ (and_parts _ _ (and_parts _ _ span).0).0

    end_h : slice_index stored (length stored - 1) ≡ 270000
    end_h = eqb-true _ _ (and_parts _ _ (and_parts _ _ span).0).1

    pub two_h : 2 ≤ length stored
    two_h = two_of stored 90000 270000 (omega arith) start_h end_h

    pub least_h : (j : ℕ) → j < length stored → 90000 ≤ slice_index stored j
    least_h j h = let le = rising_le stored up 0 j (omega arith) h in let e = start_h in omega arith

    pub most_h : (j : ℕ) → j < length stored → slice_index stored j ≤ 270000
    most_h j h = let le = rising_le stored up j (length stored - 1) (omega arith) (omega arith) in let e = end_h in omega arith

    first_h : TellsBack Plane90 stored 0 90000 (λ a. 180000 - a)
    first_h = record { only = λ a j l h i. plane90_first (slice_index stored j) a (least_h j i) (most_h j i) h }

    second_h : TellsBack Plane90 stored 90000 270000 (λ a. a - 0)
    second_h = record { only = λ a j l h i. plane90_second (slice_index stored j) a (least_h j i) (most_h j i) l h }

    third_h : TellsBack Plane90 stored 270000 359999 (λ a. 540000 - a)
    third_h = record { only = λ a j l h i. plane90_third (slice_index stored j) a (least_h j i) (most_h j i) l (omega arith) }

    module _ (half : ℕ) (inside : half < length stored) (half_is : slice_index stored half ≡ 180000) where
      pub half_after : 1 ≤ half
      half_after = let s = start_h in elim (cases_lt 0 half) [ inl l ↦ l | inr z ↦ absurd (let e : half ≡ 0 = omega arith in let same = ap (slice_index stored) e in omega arith) ]

      pub half_before : half + 2 ≤ length stored
      half_before =
          let e = end_h in
          elim (cases_lt (half + 1) (length stored)) [ inl l ↦ omega arith | inr z ↦ absurd (let at : half ≡ length stored - 1 = omega arith in let same = ap (slice_index stored) at in omega arith) ]

      pub to_half : (k : ℕ) → k < half + 1 → slice_index stored k ≤ 180000
      to_half k h = let le = rising_le stored up k half (omega arith) inside in omega arith

      last_h : slice_index stored (length stored - 1 - 1) < 270000
      last_h = let two = two_h in let e = end_h in let lt = rising_lt stored up (length stored - 1 - 1) (length stored - 1) (omega arith) (omega arith) in omega arith

      next_h : slice_index stored ((length stored - 1 - 1) + 1) ≡ 270000
      next_h = let two = two_h in ap (slice_index stored) (let at : (length stored - 1 - 1) + 1 ≡ length stored - 1 = omega arith in at) ∙ end_h

      -- up to 270 degrees
      most_of_turn : (p v p1 v1 p2 v2 : List ℕ) → p1 ≡ p ++ fallen stored 1 (half + 1) 180000 → v1 ≡ v ++ fallen_rows width stored_values 1 (half + 1) → p2 ≡ p1 ++ risen stored 0 (length stored) 0 → v2 ≡ v1 ++ risen_rows width stored_values 0 (length stored) → IsGrown 0 Plane90 stored stored_values width p v → IsGrown 270001 Plane90 stored stored_values width p2 v2
      most_of_turn p v p1 v1 p2 v2 e1 f1 e2 f2 grown =
          let s = start_h in
          let e = end_h in
          let two = two_h in
          let after = half_after in
          let to_end = half_before in
          let second = rising_lt stored up 0 1 (omega arith) (omega arith) in
          let one_low = to_half 1 (omega arith) in
          let top : slice_index stored (half + 1 - 1) ≡ 180000 = ap (slice_index stored) (let at : half + 1 - 1 ≡ half = omega arith in at) ∙ half_is in
          rises Plane90 stored up stored_values width 90000 270000 0 second_h (omega arith) 0 (length stored) (omega arith) (omega arith) (omega arith) (omega arith)
          (180000 - slice_index stored 1 + 1) 270001 p1 v1 p2 v2 (omega arith)
          (λ a l h. gap Plane90 stored up 0 90000 (λ a. 180000 - a) first_h a 0 (omega arith) (omega arith) (omega arith) (omega arith) (omega arith) (omega arith))
          (omega arith) e2 f2
          (falls Plane90 stored up stored_values width 0 90000 180000 first_h (omega arith) 1 (half + 1) (omega arith) to_half (λ _. omega arith) (λ _. omega arith)
          0 (180000 - slice_index stored 1 + 1) p v p1 v1 (λ _. omega arith) (λ a _ l h. absurd (omega arith)) (λ _. refl) (λ h. absurd (omega arith)) e1 f1 grown)

      -- a full turn is no image, and plane 0 is that of half a turn
      closing : stored_place Plane90 stored 360000 ≡ half
      closing =
          unwrapped (source Plane90 stored 360000) (source Plane90 stored 0) half
          (position_none _ stored (λ j h. plane90_end (slice_index stored j) 360000 (least_h j h) (most_h j h) refl))
          (hit_source Plane90 stored up 0 90000 (λ a. 180000 - a) first_h 0 half (omega arith) (omega arith) inside (sym half_is))

      pub plane90_grown : (p v p1 v1 p2 v2 p3 v3 p4 v4 : List ℕ) → p1 ≡ p ++ fallen stored 1 (half + 1) 180000 → v1 ≡ v ++ fallen_rows width stored_values 1 (half + 1) → p2 ≡ p1 ++ risen stored 0 (length stored) 0 → v2 ≡ v1 ++ risen_rows width stored_values 0 (length stored) → p3 ≡ p2 ++ fallen stored (half + 1) (length stored - 1) 540000 → v3 ≡ v2 ++ fallen_rows width stored_values (half + 1) (length stored - 1) → p4 ≡ p3 ++ 360000 ∷ [] → v4 ≡ v3 ++ row_values width stored_values half → IsGrown 0 Plane90 stored stored_values width p v → IsGrown 360001 Plane90 stored stored_values width p4 v4
      plane90_grown p v p1 v1 p2 v2 p3 v3 p4 v4 e1 f1 e2 f2 e3 f3 e4 f4 grown =
          let s = start_h in
          let e = end_h in
          let two = two_h in
          let to_end = half_before in
          let turn = last_h in
          let next = next_h in
          let past = rising_lt stored up half (half + 1) (omega arith) (omega arith) in
          let past_most = most_h (half + 1) (omega arith) in
          grown_hit Plane90 stored stored_values width 360000 half p3 v3 p4 v4 (closes Plane90 stored) closing e4 f4
          (grown_skip Plane90 stored stored_values width (540000 - slice_index stored (half + 1) + 1) 360000 p3 v3 (omega arith)
          (λ a l h. gap Plane90 stored up 270000 359999 (λ a. 540000 - a) third_h a half (omega arith) (omega arith) h (omega arith) (omega arith) (omega arith))
          (falls Plane90 stored up stored_values width 270000 359999 540000 third_h (omega arith) (half + 1) (length stored - 1) (omega arith) (λ k h. let m = most_h k (omega arith) in omega arith) (λ _. omega arith) (λ _. omega arith)
          270001 (540000 - slice_index stored (half + 1) + 1) p2 v2 p3 v3 (λ _. omega arith)
          (λ a more l h. let later = rising_lt stored up half (length stored - 1 - 1) (omega arith) (omega arith) in gap Plane90 stored up 270000 359999 (λ a. 540000 - a) third_h a (length stored - 1 - 1) (omega arith) (omega arith) (omega arith) (omega arith) (omega arith) (omega arith))
          (λ _. refl) (λ h. let at : half + 1 ≡ length stored - 1 = omega arith in let same = ap (slice_index stored) at in omega arith) e3 f3
          (most_of_turn p v p1 v1 p2 v2 e1 f1 e2 f2 grown)))
