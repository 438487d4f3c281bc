-- No angle is an image of two stored planes, so it has no choice whose values stand there.
use Rattle.std.proofs.Common.{◌≡◌, ℕ, ◌<◌, ◌≤◌, true, List, [], length, inl, inr, arith}
use Rattle.std.specs.Prelude.{slice_index}
use Rattle.std.specs.List.Sorted.{IsStrictlyIncreasing}
use Rattle.std.proofs.lemmas.Bool.{cases_order}
use Rattle.std.proofs.lemmas.Bool.Decides.{nat_tests}
use Rattle.photo_web.specs.declared.photometry.SymKind.{SymKind}
use Rattle.photo_web.specs.declared.photometry.SymKind.TheVariants.{Axis, Quadrant, Plane0, Plane90, Full}
use Rattle.symmetry.specs.Images.{has_span, is_image}
use Rattle.laws.proofs.Rising.{rising_lt}
use Rattle.symmetry.proofs.Images.{wrapped}
use Rattle.symmetry.proofs.Symmetries.{one_a, most0, most_q, least_h, most_h}

quadrant_one : (d e a : ℕ) → d ≤ 90000 → e ≤ 90000 → is_image Quadrant a d ≡ true → is_image Quadrant a e ≡ true → d ≡ e
quadrant_one d e a h k i j = grind (arith, nat_tests)

plane0_one : (d e a : ℕ) → d ≤ 180000 → e ≤ 180000 → is_image Plane0 a d ≡ true → is_image Plane0 a e ≡ true → d ≡ e
plane0_one d e a h k i j = grind (arith, nat_tests)

full_one : (d e a : ℕ) → is_image Full a d ≡ true → is_image Full a e ≡ true → d ≡ e
full_one d e a i j = grind (arith, nat_tests)

plane90_one : (d e a : ℕ) → 90000 ≤ d → d ≤ 270000 → 90000 ≤ e → e ≤ 270000 → is_image Plane90 a d ≡ true → is_image Plane90 a e ≡ true → d ≡ e
plane90_one d e a least_d most_d least_e most_e i j =
    elim (wrapped d least_d most_d) [
      | inl w ↦ let r = w.1 in let l = w.0 in elim (wrapped e least_e most_e) [ inl z ↦ let t = z.1 in let m = z.0 in grind (arith, nat_tests) | inr z ↦ let t = z.1 in let m = z.0 in grind (arith, nat_tests) ]
      | inr w ↦ let r = w.1 in let l = w.0 in elim (wrapped e least_e most_e) [ inl z ↦ let t = z.1 in let m = z.0 in grind (arith, nat_tests) | inr z ↦ let t = z.1 in let m = z.0 in grind (arith, nat_tests) ]
    ]

module _ (stored : List ℕ) (up : IsStrictlyIncreasing stored) where
  -- equal angles of a rising list stand at one place
  same_place : (i j : ℕ) → i < length stored → j < length stored → slice_index stored i ≡ slice_index stored j → i ≡ j
  same_place i j h k same =
      elim (cases_order i j) [
        | inl e ↦ e
        | inr apart ↦ elim apart [
          | inl before ↦ absurd (let lt = rising_lt stored up i j before k in omega arith)
          | inr after ↦ absurd (let lt = rising_lt stored up j i after h in omega arith)
        ]
      ]

  -- an angle is an image of one stored plane at most
  pub one_source : (kind : SymKind) → has_span kind stored ≡ true → (a i j : ℕ) → i < length stored → j < length stored → is_image kind a (slice_index stored i) ≡ true → is_image kind a (slice_index stored j) ≡ true → i ≡ j
  one_source Axis span a i j h k x y = let one = one_a stored up [] 0 span in omega arith
  one_source Quadrant span a i j h k x y =
      same_place i j h k (quadrant_one (slice_index stored i) (slice_index stored j) a (most_q stored up [] 0 span i h) (most_q stored up [] 0 span j k) x y)
  one_source Plane0 span a i j h k x y =
      same_place i j h k (plane0_one (slice_index stored i) (slice_index stored j) a (most0 stored up [] 0 span i h) (most0 stored up [] 0 span j k) x y)
  one_source Plane90 span a i j h k x y =
      same_place i j h k (plane90_one (slice_index stored i) (slice_index stored j) a (least_h stored up [] 0 span i h) (most_h stored up [] 0 span i h) (least_h stored up [] 0 span j k) (most_h stored up [] 0 span j k) x y)
  one_source Full span a i j h k x y = same_place i j h k (full_one (slice_index stored i) (slice_index stored j) a x y)
