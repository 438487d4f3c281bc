-- The ways forth and back over stored planes: what each appends to a web that grows.
use Rattle.std.proofs.Common.{◌≡◌, ℕ, zero, suc, ◌+◌, ◌-◌, ◌<◌, ◌≤◌, false, List, ◌++◌, length, map, refl, sym, ap, subst, ◌∙◌, arith}
use Rattle.std.specs.Prelude.{slice_index}
use Rattle.std.specs.List.{range_with_len, flat_map}
use Rattle.std.specs.List.Sorted.{IsStrictlyIncreasing}
use Rattle.photo_web.specs.declared.photometry.SymKind.{SymKind}
use Rattle.photo_web.specs.Web.{row_values}
use Rattle.symmetry.specs.Images.{is_plane}
use Rattle.symmetry.specs.Growth.{IsGrown}
use Rattle.laws.proofs.Rising.{rising_lt, rising_le}
use Rattle.symmetry.proofs.Images.{TellsBack, hit_plane, hit_place, gap}
use Rattle.symmetry.proofs.Growth.{before, run}

module _ (kind : SymKind) (stored : List ℕ) (up : IsStrictlyIncreasing stored) (rows : List ℕ) (width : ℕ) where
  -- the same, for lists that equal what was appended
  grown_as : (m n : ℕ) (planes values more_planes more_values : List ℕ) → m ≡ n → more_planes ≡ planes → more_values ≡ values → IsGrown n kind stored rows width planes values → IsGrown m kind stored rows width more_planes more_values
  grown_as m n planes values more_planes more_values e p v grown =
      subst (λ (k : ℕ). IsGrown k kind stored rows width more_planes more_values) (sym e) (record { planes_are = p ∙ grown.planes_are; values_are = v ∙ grown.values_are })

  module _ (low high turn : ℕ) (tells : TellsBack kind stored low high (λ a. a - turn)) (short : high ≤ 360000) where
    module _ (from to : ℕ) (some : from < to) (inside : to ≤ length stored) (above : low ≤ turn + slice_index stored from) (below : turn + slice_index stored (to - 1) ≤ high) where
      abbrev angle : ℕ → ℕ
      angle i = turn + slice_index stored (from + i)

      in_span : (k : ℕ) → from ≤ k → k < to → (low ≤ turn + slice_index stored k) × (turn + slice_index stored k ≤ high)
      in_span k h l = let a = rising_le stored up from k h (omega arith) in let b = rising_le stored up k (to - 1) (omega arith) (omega arith) in (omega arith, omega arith)

      back_is : (k : ℕ) → (turn + slice_index stored k) - turn ≡ slice_index stored k
      back_is k = omega arith

      -- planes in their order
      pub rises : (n m : ℕ) (planes values more_planes more_values : List ℕ) → n ≤ turn + slice_index stored from → ((a : ℕ) → n ≤ a → a < turn + slice_index stored from → is_plane kind stored a ≡ false) → m ≡ turn + slice_index stored (to - 1) + 1 → more_planes ≡ planes ++ map (λ i. turn + slice_index stored (from + i)) (range_with_len 0 (to - from)) → more_values ≡ values ++ flat_map (λ i. row_values width rows (from + i)) (range_with_len 0 (to - from)) → IsGrown n kind stored rows width planes values → IsGrown m kind stored rows width more_planes more_values
      rises n m planes values more_planes more_values start empty end p v grown =
          grown_as m _ _ _ more_planes more_values ends p v
          (run kind stored rows width (to - from) n angle (λ (i : ℕ). from + i) planes values
          (λ i h. let k = in_span (from + i) (omega arith) (omega arith) in hit_plane kind stored up low high (λ a. a - turn) tells (angle i) (from + i) k.0 k.1 (omega arith) (back_is (from + i)))
          (λ i h. let k = in_span (from + i) (omega arith) (omega arith) in hit_place kind stored up low high (λ a. a - turn) tells (angle i) (from + i) k.0 k.1 (omega arith) (back_is (from + i)))
          ups gaps grown)
        where
          first : from + 0 ≡ from
          first = omega arith

          ups : (i : ℕ) → i < to - from → before n angle i ≤ angle i
          ups zero h = subst (λ (k : ℕ). n ≤ turn + slice_index stored k) (sym first) start
          ups (suc i) h = let lt = rising_lt stored up (from + i) (from + suc i) (omega arith) (omega arith) in omega arith

          gaps : (i a : ℕ) → i < to - from → before n angle i ≤ a → a < angle i → is_plane kind stored a ≡ false
          gaps zero a h l u = empty a l (subst (λ (k : ℕ). a < turn + slice_index stored k) first u)
          gaps (suc i) a h l u =
              let k = in_span (from + i) (omega arith) (omega arith) in
              let k' = in_span (from + suc i) (omega arith) (omega arith) in
              let next : from + suc i ≡ (from + i) + 1 = omega arith in
              gap kind stored up low high (λ a. a - turn) tells a (from + i) (omega arith) (omega arith) (omega arith) (omega arith) (omega arith)
              (subst (λ (j : ℕ). a - turn < slice_index stored j) next (omega arith))

          ends_at : (count last : ℕ) → m ≡ turn + slice_index stored last + 1 → 0 < count → last + 1 ≡ from + count → m ≡ before n angle count
          ends_at zero last e h same = absurd (omega arith)
          ends_at (suc i) last e h same = e ∙ ap (λ (k : ℕ). turn + slice_index stored k + 1) (let at : last ≡ from + i = omega arith in at)

          ends : m ≡ before n angle (to - from)
          ends = ends_at (to - from) (to - 1) end (omega arith) (omega arith)

  module _ (low high total : ℕ) (tells : TellsBack kind stored low high (λ a. total - a)) (short : high ≤ 360000) where
    module _ (from to : ℕ) (inside : to ≤ length stored) (fits : (k : ℕ) → k < to → slice_index stored k ≤ total) (above : from < to → low ≤ total - slice_index stored (to - 1)) (below : from < to → total - slice_index stored from ≤ high) where
      abbrev image : ℕ → ℕ
      image i = total - slice_index stored (to - 1 - i)

      in_turn : (k : ℕ) → from ≤ k → k < to → (low ≤ total - slice_index stored k) × (total - slice_index stored k ≤ high)
      in_turn k h l =
          let a = rising_le stored up from k h (omega arith) in
          let b = rising_le stored up k (to - 1) (omega arith) (omega arith) in
          let above' = above (omega arith) in
          let below' = below (omega arith) in
          (omega arith, omega arith)

      forth_is : (k : ℕ) → k < to → total - (total - slice_index stored k) ≡ slice_index stored k
      forth_is k h = let f = fits k h in omega arith

      -- planes in the other order, each at its mirror image
      pub falls : (n m : ℕ) (planes values more_planes more_values : List ℕ) → (from < to → n ≤ total - slice_index stored (to - 1)) → ((a : ℕ) → from < to → n ≤ a → a < total - slice_index stored (to - 1) → is_plane kind stored a ≡ false) → (from < to → m ≡ total - slice_index stored from + 1) → (to ≤ from → m ≡ n) → more_planes ≡ planes ++ map (λ i. total - slice_index stored (to - 1 - i)) (range_with_len 0 (to - from)) → more_values ≡ values ++ flat_map (λ i. row_values width rows (to - 1 - i)) (range_with_len 0 (to - from)) → IsGrown n kind stored rows width planes values → IsGrown m kind stored rows width more_planes more_values
      falls n m planes values more_planes more_values start empty end stays p v grown =
          grown_as m _ _ _ more_planes more_values ends p v
          (run kind stored rows width (to - from) n image (λ (i : ℕ). to - 1 - i) planes values
          (λ i h. let k = in_turn (to - 1 - i) (omega arith) (omega arith) in hit_plane kind stored up low high (λ a. total - a) tells (image i) (to - 1 - i) k.0 k.1 (omega arith) (forth_is (to - 1 - i) (omega arith)))
          (λ i h. let k = in_turn (to - 1 - i) (omega arith) (omega arith) in hit_place kind stored up low high (λ a. total - a) tells (image i) (to - 1 - i) k.0 k.1 (omega arith) (forth_is (to - 1 - i) (omega arith)))
          ups gaps grown)
        where
          first : to - 1 - 0 ≡ to - 1
          first = omega arith

          ups : (i : ℕ) → i < to - from → before n image i ≤ image i
          ups zero h = subst (λ (k : ℕ). n ≤ total - slice_index stored k) (sym first) (start (omega arith))
          ups (suc i) h =
              let lt = rising_lt stored up (to - 1 - suc i) (to - 1 - i) (omega arith) (omega arith) in
              let f = fits (to - 1 - i) (omega arith) in
              omega arith

          gaps : (i a : ℕ) → i < to - from → before n image i ≤ a → a < image i → is_plane kind stored a ≡ false
          gaps zero a h l u = empty a (omega arith) l (subst (λ (k : ℕ). a < total - slice_index stored k) first u)
          gaps (suc i) a h l u =
              let k = in_turn (to - 1 - i) (omega arith) (omega arith) in
              let k' = in_turn (to - 1 - suc i) (omega arith) (omega arith) in
              let f = fits (to - 1 - i) (omega arith) in
              let next : to - 1 - i ≡ (to - 1 - suc i) + 1 = omega arith in
              gap kind stored up low high (λ a. total - a) tells a (to - 1 - suc i) (omega arith) (omega arith) (omega arith) (omega arith) (omega arith)
              (subst (λ (j : ℕ). total - a < slice_index stored j) next (omega arith))

          ends_at : (count : ℕ) → count ≡ to - from → m ≡ before n image count
          ends_at zero same = stays (omega arith)
          ends_at (suc i) same = end (omega arith) ∙ ap (λ (k : ℕ). total - slice_index stored k + 1) (let at : from ≡ to - 1 - i = omega arith in at)

          ends : m ≡ before n image (to - from)
          ends = ends_at (to - from) refl
