-- How a web grows from one plane to the next.
use Rattle.std.proofs.Common.{◌≡◌, ℕ, zero, suc, ◌+◌, ◌-◌, ◌<◌, ◌≤◌, true, false, cond, List, [], ◌∷◌, ◌++◌, map, sym, ap, ◌∙◌, arith, append-nil}
use Rattle.std.specs.List.{range_with_len, flat_map}
use Rattle.std.proofs.lemmas.Bool.{cond-true, cond-false}
use Rattle.std.proofs.lemmas.Grind.{flat_map-append}
use Rattle.photo_web.specs.declared.photometry.SymKind.{SymKind}
use Rattle.photo_web.specs.Web.{row_values}
use Rattle.symmetry.specs.Images.{is_plane, stored_place, planes_below}
use Rattle.symmetry.specs.Growth.{IsGrown}
use Rattle.laws.proofs.Ranges.{filter-more, values-more, lists-more}

-- where to go on after some planes
abbrev pub before : ℕ → (ℕ → ℕ) → ℕ → ℕ
before n angle zero = n
before n angle (suc i) = angle i + 1

module _ (kind : SymKind) (stored : List ℕ) where
  pub planes_more : (n : ℕ) → planes_below (n + 1) kind stored ≡ planes_below n kind stored ++ cond (is_plane kind stored n) (n ∷ []) []
  unfolding planes_below
  planes_more n = filter-more (is_plane kind stored) n

  pub planes_hit : (n : ℕ) → is_plane kind stored n ≡ true → planes_below (n + 1) kind stored ≡ planes_below n kind stored ++ n ∷ []
  planes_hit n hit = planes_more n ∙ ap (λ (xs : List ℕ). planes_below n kind stored ++ xs) (cond-true (is_plane kind stored n) (n ∷ []) [] hit)

  planes_miss : (n : ℕ) → is_plane kind stored n ≡ false → planes_below (n + 1) kind stored ≡ planes_below n kind stored
  planes_miss n miss = planes_more n ∙ (ap (λ (xs : List ℕ). planes_below n kind stored ++ xs) (cond-false (is_plane kind stored n) (n ∷ []) [] miss) ∙ append-nil _)

  -- no plane for some angles
  planes_skip : (n d : ℕ) → ((a : ℕ) → n ≤ a → a < n + d → is_plane kind stored a ≡ false) → planes_below (n + d) kind stored ≡ planes_below n kind stored
  planes_skip n zero none = ap (λ (m : ℕ). planes_below m kind stored) (let e : n + 0 ≡ n = omega arith in e)
  planes_skip n (suc d) none =
      ap (λ (m : ℕ). planes_below m kind stored) (let e : n + suc d ≡ (n + d) + 1 = omega arith in e)
      ∙ (planes_miss (n + d) (none (n + d) (omega arith) (omega arith)) ∙ planes_skip n d (λ a h k. none a h (omega arith)))

  module _ (rows : List ℕ) (width : ℕ) where
    pub grown_none : (planes values : List ℕ) → planes ≡ [] → values ≡ [] → IsGrown 0 kind stored rows width planes values
    unfolding planes_below
    grown_none planes values p v = record { planes_are = p; values_are = v }

    pub grown_skip : (n m : ℕ) (planes values : List ℕ) → n ≤ m → ((a : ℕ) → n ≤ a → a < m → is_plane kind stored a ≡ false) → IsGrown n kind stored rows width planes values → IsGrown m kind stored rows width planes values
    grown_skip n m planes values up none grown =
        let e : m ≡ n + (m - n) = omega arith in
        let same : planes_below n kind stored ≡ planes_below m kind stored =
        sym (ap (λ (k : ℕ). planes_below k kind stored) e ∙ planes_skip n (m - n) (λ a h k. none a h (omega arith))) in
        record { planes_are = grown.planes_are ∙ same; values_are = grown.values_are ∙ ap (flat_map (λ (a : ℕ). row_values width rows (stored_place kind stored a))) same }

    pub grown_hit : (n k : ℕ) (planes values more_planes more_values : List ℕ) → is_plane kind stored n ≡ true → stored_place kind stored n ≡ k → more_planes ≡ planes ++ n ∷ [] → more_values ≡ values ++ row_values width rows k → IsGrown n kind stored rows width planes values → IsGrown (n + 1) kind stored rows width more_planes more_values
    grown_hit n k planes values more_planes more_values hit place p v grown =
        let f = λ (a : ℕ). row_values width rows (stored_place kind stored a) in
        let same = planes_hit n hit in
        record {
          planes_are = p ∙ (ap (λ (xs : List ℕ). xs ++ n ∷ []) grown.planes_are ∙ sym same);
          values_are = v
              ∙ ((λ i. grown.values_are i ++ row_values width rows (sym place i))
              ∙ sym (ap (flat_map f) same ∙ (flat_map-append f (planes_below n kind stored) (n ∷ []) ∙ ap (λ (xs : List ℕ). flat_map f (planes_below n kind stored) ++ xs) (append-nil (f n)))));
        }

    -- one plane after another
    pub run : (count n : ℕ) (angle place : ℕ → ℕ) (planes values : List ℕ) → ((i : ℕ) → i < count → is_plane kind stored (angle i) ≡ true) → ((i : ℕ) → i < count → stored_place kind stored (angle i) ≡ place i) → ((i : ℕ) → i < count → before n angle i ≤ angle i) → ((i a : ℕ) → i < count → before n angle i ≤ a → a < angle i → is_plane kind stored a ≡ false) → IsGrown n kind stored rows width planes values → IsGrown (before n angle count) kind stored rows width (planes ++ map angle (range_with_len 0 count)) (values ++ flat_map (λ i. row_values width rows (place i)) (range_with_len 0 count))
    run zero n angle place planes values hits places ups gaps grown = record { planes_are = append-nil planes ∙ grown.planes_are; values_are = append-nil values ∙ grown.values_are }
    run (suc c) n angle place planes values hits places ups gaps grown =
        let all_planes = planes ++ map angle (range_with_len 0 c) in
        let all_values = values ++ flat_map (λ (i : ℕ). row_values width rows (place i)) (range_with_len 0 c) in
        let step : suc c ≡ c + 1 = omega arith in
        let so_far : IsGrown (before n angle c) kind stored rows width all_planes all_values =
        run c n angle place planes values (λ i h. hits i (omega arith)) (λ i h. places i (omega arith)) (λ i h. ups i (omega arith)) (λ i a h. gaps i a (omega arith)) grown in
        let reached : IsGrown (angle c) kind stored rows width all_planes all_values = grown_skip (before n angle c) (angle c) all_planes all_values (ups c (omega arith)) (λ a. gaps c a (omega arith)) so_far in
        grown_hit (angle c) (place c) all_planes all_values _ _ (hits c (omega arith)) (places c (omega arith))
        (sym (values-more angle planes c ∙ ap (λ (k : ℕ). planes ++ map angle (range_with_len 0 k)) (sym step)))
        (sym (lists-more (λ (i : ℕ). row_values width rows (place i)) values c ∙ ap (λ (k : ℕ). values ++ flat_map (λ (i : ℕ). row_values width rows (place i)) (range_with_len 0 k)) (sym step)))
        reached
