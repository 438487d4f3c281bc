-- Planes about 90 degrees: the angles read, turned.
use Rattle.std.proofs.Common.{◌≡◌, ℕ, ◌+◌, ◌-◌, ◌*◌, ◌/◌, ◌%◌, ◌<◌, ◌≤◌, true, List, ◌++◌, length, get_or, map, take, drop, reverse, refl, sym, ap, ◌∙◌, arith, inl, inr}
use Rattle.std.specs.Prelude.{slice_index, ◌==◌}
use Rattle.std.specs.List.Sorted.{IsStrictlyIncreasing}
use Rattle.std.proofs.lemmas.Bool.{cases_lt, eqb-true, eq-eqb, ltb-true, and_parts}
use Rattle.std.proofs.lemmas.List.{get_or-map, get_or-reverse, get_or-take, get_or-drop, get_or_append_left, get_or-append_right, length-map, length-reverse, length-append, length-take, length-drop}
use Rattle.std.proofs.lemmas.List.Folds.{list_any_at}
use Rattle.photo_web.specs.declared.photometry.SymKind.TheVariants.{Plane90}
use Rattle.symmetry.specs.Images.{has_span}
use Rattle.laws.proofs.Rising.{rising_lt, rising_le}
use Rattle.eulumdat_reader.specs.Planes.{turned_angle, is_span}

-- what the span says of the angles read
pub record IsAbout90 (a : List ℕ) (q : ℕ) : Type 0 where
  pub len : length a ≡ 2 * q + 1
  pub some : 1 ≤ q
  pub start : slice_index a 0 ≡ 0
  pub quarter : slice_index a q ≡ 90000
  pub behind : slice_index a (q + 1) ≡ 270000
  pub below : slice_index a (2 * q) < 360000

turned_front : (angle : ℕ) → angle ≤ 90000 → turned_angle angle ≡ 180000 - angle
turned_front angle h = omega arith

turned_back : (angle : ℕ) → 270000 ≤ angle → angle < 360000 → turned_angle angle ≡ 540000 - angle
turned_back angle h k = omega arith

module _ (a : List ℕ) (q : ℕ) (up : IsStrictlyIncreasing a) (about : IsAbout90 a q) where
  -- the turned planes
  abbrev pub planes : List ℕ
  planes = map turned_angle (reverse (take (q + 1) a) ++ reverse (drop (q + 1) a))

  pub count : length planes ≡ 2 * q + 1
  count = simp (length-map, length-append, length-reverse, length-take, length-drop) (omega (arith, about.len))

  low : (k : ℕ) → k ≤ q → slice_index a k ≤ 90000
  low k h = let le = rising_le a up k q h (omega (arith, about.len)) in omega (arith, about.quarter)

  high : (k : ℕ) → q < k → k < 2 * q + 1 → (270000 ≤ slice_index a k) × (slice_index a k < 360000)
  high k h inside =
      let from = rising_le a up (q + 1) k (omega arith) (omega (arith, about.len)) in
      let to = rising_le a up k (2 * q) (omega arith) (omega (arith, about.len)) in
      (omega (arith, about.behind), omega (arith, about.below))

  at_front : (i : ℕ) → i ≤ q → slice_index planes i ≡ 180000 - slice_index a (q - i)
  at_front i h =
      let front = length-take (q + 1) a in
      let back = length-drop (q + 1) a in
      let len_front = length-reverse (take (q + 1) a) in
      let len_all = length-append (reverse (take (q + 1) a)) (reverse (drop (q + 1) a)) in
      let place : length (take (q + 1) a) - 1 - i ≡ q - i = omega (arith, about.len) in
      get_or-map turned_angle (reverse (take (q + 1) a) ++ reverse (drop (q + 1) a)) i 0 0 (omega (arith, about.len))
      ∙ (ap turned_angle (get_or_append_left (reverse (take (q + 1) a)) (reverse (drop (q + 1) a)) 0 i (omega (arith, about.len))
      ∙ (get_or-reverse (take (q + 1) a) i 0 (omega (arith, about.len))
      ∙ (ap (λ (k : ℕ). get_or (take (q + 1) a) k 0) place ∙ get_or-take (q + 1) a (q - i) 0 (omega arith))))
      ∙ turned_front (slice_index a (q - i)) (low (q - i) (omega arith)))

  at_back : (i : ℕ) → q < i → i < 2 * q + 1 → slice_index planes i ≡ 540000 - slice_index a (3 * q + 1 - i)
  at_back i h inside =
      let front = length-take (q + 1) a in
      let back = length-drop (q + 1) a in
      let len_front = length-reverse (take (q + 1) a) in
      let len_back = length-reverse (drop (q + 1) a) in
      let len_all = length-append (reverse (take (q + 1) a)) (reverse (drop (q + 1) a)) in
      let place : q + 1 + (length (drop (q + 1) a) - 1 - (i - (q + 1))) ≡ 3 * q + 1 - i = omega (arith, about.len) in
      let bounds = high (3 * q + 1 - i) (omega arith) (omega arith) in
      get_or-map turned_angle (reverse (take (q + 1) a) ++ reverse (drop (q + 1) a)) i 0 0 (omega (arith, about.len))
      ∙ (ap turned_angle (get_or-append_right (reverse (take (q + 1) a)) (reverse (drop (q + 1) a)) (q + 1) i 0 (omega (arith, about.len)) (omega arith)
      ∙ (get_or-reverse (drop (q + 1) a) (i - (q + 1)) 0 (omega (arith, about.len))
      ∙ (get_or-drop (q + 1) a (length (drop (q + 1) a) - 1 - (i - (q + 1))) 0 ∙ ap (λ (k : ℕ). slice_index a k) place)))
      ∙ turned_back (slice_index a (3 * q + 1 - i)) bounds.0 bounds.1)

  pub rises : IsStrictlyIncreasing planes
  rises = λ i inside.
      let len = count in
      elim (cases_lt i q) [
        | inl before ↦
            let here = at_front i (omega arith) in
            let next = at_front (i + 1) (omega arith) in
            let less = rising_lt a up (q - (i + 1)) (q - i) (omega arith) (omega (arith, about.len)) in
            let most = low (q - i) (omega arith) in
            omega arith
        | inr behind ↦ elim (cases_lt q i) [
          | inl after ↦
              let here = at_back i after (omega arith) in
              let next = at_back (i + 1) (omega arith) (omega arith) in
              let less = rising_lt a up (3 * q + 1 - (i + 1)) (3 * q + 1 - i) (omega arith) (omega (arith, about.len)) in
              let most = high (3 * q + 1 - i) (omega arith) (omega arith) in
              omega (arith, most.1)
          | inr middle ↦
              let same : i ≡ q = omega arith in
              let here = at_front i (omega arith) in
              let next = at_back (i + 1) (omega arith) (omega arith) in
              let most = high (3 * q + 1 - (i + 1)) (omega arith) (omega arith) in
              omega (arith, most.1)
        ]
      ]

  begins : slice_index planes 0 ≡ 90000
  begins = let here = at_front 0 (omega arith) in let e : q - 0 ≡ q = omega arith in let same = ap (λ (k : ℕ). slice_index a k) e in omega (arith, about.quarter)

  ends : slice_index planes (length planes - 1) ≡ 270000
  ends =
      let e : length planes - 1 ≡ 2 * q = omega (arith, count) in
      let here = at_back (2 * q) (omega (arith, about.some)) (omega arith) in
      let f : 3 * q + 1 - 2 * q ≡ q + 1 = omega arith in
      let same = ap (λ (k : ℕ). slice_index a k) f in
      ap (λ (k : ℕ). slice_index planes k) e ∙ omega (arith, about.behind)

  half : slice_index planes q ≡ 180000
  half = let here = at_front q (omega arith) in let e : q - q ≡ 0 = omega arith in let same = ap (λ (k : ℕ). slice_index a k) e in omega (arith, about.start)

  pub spans_half : has_span Plane90 planes ≡ true
  spans_half =
      let first = eq-eqb (slice_index planes 0) 90000 begins in
      let last = eq-eqb (slice_index planes (length planes - 1)) 270000 ends in
      let among = list_any_at (λ (angle : ℕ). angle == 180000) planes q 0 (omega (arith, count)) (eq-eqb (slice_index planes q) 180000 half) in
      rw (first, last, among) refl

-- the angles read of planes about 90 degrees
pub about_of : (count : ℕ) (a : List ℕ) → 1 ≤ count → count % 4 ≡ 0 → length a + (3 * (count / 4) - (count / 4 + 1)) ≡ count → is_span Plane90 count a ≡ true → IsAbout90 a (count / 4)
about_of count a some whole len span =
    let long : length a ≡ 2 * (count / 4) + 1 = omega arith in
    let front = length-take (count / 4 + 1) a in
    let last : length (take (count / 4 + 1) a) - 1 ≡ count / 4 = omega arith in
    let most : length a - 1 ≡ 2 * (count / 4) = omega arith in
    let one : 1 ≤ count / 4 = omega arith in
    let split = and_parts _ _ span in
    let parts = and_parts _ _ split.0 in
    let ends = and_parts _ _ parts.0 in
    record {
      len = long;
      some = one;
      start = sym (get_or-take (count / 4 + 1) a 0 0 (omega arith)) ∙ eqb-true _ _ ends.0;
      quarter = sym (get_or-take (count / 4 + 1) a (count / 4) 0 (omega arith)) ∙ (ap (λ (k : ℕ). slice_index (take (count / 4 + 1) a) k) (sym last) ∙ eqb-true _ _ ends.1);
      behind = eqb-true _ _ parts.1;
      below = rw (ap (λ (k : ℕ). slice_index a k) most) at (ltb-true _ _ split.1);
    }
