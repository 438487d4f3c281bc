-- Names without later repetitions, where they come one by one.
use Rattle.std.proofs.Common.{◌≡◌, ℕ, zero, suc, ◌+◌, ◌<◌, ◌≤◌, true, false, List, [], ◌∷◌, ◌++◌, length, map, filter, take, Option, Some, refl, ap, ◌∙◌, sym, inl, inr, true≢false, arith}
use Rattle.std.specs.Prelude.{not, slice_get}
use Rattle.std.specs.List.{list_any, range_with_len}
use Rattle.std.specs.Str.{bytes_eq}
use Rattle.std.proofs.lemmas.Bool.{cases_Bool}
use Rattle.std.proofs.lemmas.Slice.Eq.{bytes_eq-Decides}
use Rattle.laws.proofs.Ranges.{map-more}
use Rattle.toml.specs.Data.{Data}
use Rattle.project_file.specs.Projects.{without_repetitions}
use Rattle.project_file.specs.Shapes.{with_file}

-- the names among some that are not this one
abbrev others : List ℕ → List (List ℕ) → List (List ℕ)
others name names = filter (λ other. not (bytes_eq name other)) names

same_either_way : (a b : List ℕ) → bytes_eq a b ≡ true → bytes_eq b a ≡ true
same_either_way a b same = (bytes_eq-Decides b a).1 (sym ((bytes_eq-Decides a b).0 same))

apart_either_way : (a b : List ℕ) → bytes_eq a b ≡ false → bytes_eq b a ≡ false
apart_either_way a b apart =
    elim (cases_Bool (bytes_eq b a)) [
      | inl same ↦ absurd (true≢false (sym (same_either_way b a same) ∙ apart))
      | inr other ↦ other
    ]

-- a name stays among those that are not another one
any_others : (one name : List ℕ) (names : List (List ℕ)) → bytes_eq name one ≡ false → list_any (bytes_eq name) (others one names) ≡ list_any (bytes_eq name) names
any_others one name [] apart = refl
any_others one name (first ∷ names) apart =
    elim (cases_Bool (bytes_eq one first)) [
      | inl same ↦
          let is : one ≡ first = (bytes_eq-Decides one first).0 same in
          let far : bytes_eq name first ≡ false = rw is at apart in
          rw (same, far) (any_others one name names apart)
      | inr other ↦ rw other (rw (any_others one name names apart) refl)
    ]

-- those that are not this one, of some names and one more
others_same : (one name : List ℕ) (names : List (List ℕ)) → bytes_eq one name ≡ true → others one (names ++ name ∷ []) ≡ others one names
others_same one name [] same = rw same refl
others_same one name (first ∷ names) same =
    elim (cases_Bool (bytes_eq one first)) [
      | inl here ↦ rw here (others_same one name names same)
      | inr other ↦ rw other (ap (λ (rest : List (List ℕ)). first ∷ rest) (others_same one name names same))
    ]

others_more : (one name : List ℕ) (names : List (List ℕ)) → bytes_eq one name ≡ false → others one (names ++ name ∷ []) ≡ others one names ++ name ∷ []
others_more one name [] apart = rw apart refl
others_more one name (first ∷ names) apart =
    elim (cases_Bool (bytes_eq one first)) [
      | inl here ↦ rw here (others_more one name names apart)
      | inr other ↦ rw other (ap (λ (rest : List (List ℕ)). first ∷ rest) (others_more one name names apart))
    ]

one_in_front : (one name : List ℕ) (names : List (List ℕ)) → one ∷ others one (with_file names name) ≡ with_file (one ∷ others one names) name
one_in_front one name names =
    elim (cases_Bool (bytes_eq name one)) [
      | inl same ↦ elim (cases_Bool (list_any (bytes_eq name) names)) [
        | inl there ↦ rw (there, same) refl
        | inr new ↦ rw (new, same) (ap (λ (rest : List (List ℕ)). one ∷ rest) (others_same one name names (same_either_way name one same)))
      ]
      | inr apart ↦ elim (cases_Bool (list_any (bytes_eq name) names)) [
        | inl there ↦ rw (there, apart, any_others one name names apart, there) refl
        | inr new ↦ rw (new, apart, any_others one name names apart, new) (ap (λ (rest : List (List ℕ)). one ∷ rest) (others_more one name names (apart_either_way name one apart)))
      ]
    ]

-- one more name
pub one_more_name : (names : List (List ℕ)) (name : List ℕ) → without_repetitions (names ++ name ∷ []) ≡ with_file (without_repetitions names) name
one_more_name [] name = refl
one_more_name (one ∷ names) name = ap (λ (rest : List (List ℕ)). one ∷ others one rest) (one_more_name names name) ∙ one_in_front one name (without_repetitions names)

module _ {X : Type 0} (value : Option Data → X) where
  -- what each of some data gives, and one more
  pub values_more : (ls : List Data) (n : ℕ) → n < length ls → map (λ l. value (Some l)) (take (suc n) ls) ≡ map (λ l. value (Some l)) (take n ls) ++ value (slice_get ls n) ∷ []
  values_more [] n inside = absurd (omega arith)
  values_more (l ∷ ls) zero inside = refl
  values_more (l ∷ ls) (suc n) inside = ap (λ (rest : List X). value (Some l) ∷ rest) (values_more ls n (omega arith))

  -- the same by their places
  pub values_by_places : (ls : List Data) (n : ℕ) → n ≤ length ls → map (λ l. value (Some l)) (take n ls) ≡ map (λ i. value (slice_get ls i)) (range_with_len 0 n)
  values_by_places ls zero within = refl
  values_by_places ls (suc n) within =
      let next : suc n ≡ n + 1 = omega arith in
      values_more ls n (omega arith)
      ∙ (ap (λ (front : List X). front ++ value (slice_get ls n) ∷ []) (values_by_places ls n (omega arith))
      ∙ (sym (map-more (λ (i : ℕ). value (slice_get ls i)) n) ∙ ap (λ (k : ℕ). map (λ i. value (slice_get ls i)) (range_with_len 0 k)) (sym next)))
