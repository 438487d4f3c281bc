-- Lists over the numbers below a count, and one number more.
use Rattle.std.proofs.Common.{◌≡◌, ℕ, ◌+◌, Bool, cond, List, [], ◌∷◌, ◌++◌, map, sym, ap, ◌∙◌, arith, append_assoc, append-nil}
use Rattle.std.specs.Prelude.{filter}
use Rattle.std.specs.List.{range_with_len, flat_map}
use Rattle.std.proofs.lemmas.List.{map-id}
use Rattle.std.proofs.lemmas.List.Concat.{flat_map-append}
use Rattle.std.proofs.lemmas.List.FromFn.{map-range_with_len_more, filter_of_map_range_with_len_more}

-- the numbers themselves
pub range-more : (n : ℕ) → range_with_len 0 (n + 1) ≡ range_with_len 0 n ++ n ∷ []
range-more n =
    sym (map-id (range_with_len 0 (n + 1)))
    ∙ (map-range_with_len_more (λ (k : ℕ). k) 0 n n (omega arith) ∙ ap (λ (numbers : List ℕ). numbers ++ n ∷ []) (map-id (range_with_len 0 n)))

-- those that pass a test
pub filter-more : (test : ℕ → Bool) (n : ℕ) → filter test (range_with_len 0 (n + 1)) ≡ filter test (range_with_len 0 n) ++ cond (test n) (n ∷ []) []
filter-more test n =
    ap (filter test) (sym (map-id (range_with_len 0 (n + 1))))
    ∙ (filter_of_map_range_with_len_more test (λ (k : ℕ). k) 0 n n (omega arith)
    ∙ ap (λ (numbers : List ℕ). filter test numbers ++ cond (test n) (n ∷ []) []) (map-id (range_with_len 0 n)))

module _ {X : Type 0} where
  -- a value for each number
  pub map-more : (value : ℕ → X) (n : ℕ) → map value (range_with_len 0 (n + 1)) ≡ map value (range_with_len 0 n) ++ value n ∷ []
  map-more value n = map-range_with_len_more value 0 n n (omega arith)

  -- a list for each number
  pub flat_map-more : (lists : ℕ → List X) (n : ℕ) → flat_map lists (range_with_len 0 (n + 1)) ≡ flat_map lists (range_with_len 0 n) ++ lists n
  flat_map-more lists n =
      ap (flat_map lists) (range-more n)
      ∙ (flat_map-append lists (range_with_len 0 n) (n ∷ []) ∙ ap (λ (last : List X). flat_map lists (range_with_len 0 n) ++ last) (append-nil (lists n)))

  -- a value for each number, behind a list
  pub values-more : (value : ℕ → X) (front : List X) (n : ℕ) → (front ++ map value (range_with_len 0 n)) ++ value n ∷ [] ≡ front ++ map value (range_with_len 0 (n + 1))
  values-more value front n = append_assoc front (map value (range_with_len 0 n)) (value n ∷ []) ∙ ap (λ (values : List X). front ++ values) (sym (map-more value n))

  -- a list for each number, behind a list
  pub lists-more : (lists : ℕ → List X) (front : List X) (n : ℕ) → (front ++ flat_map lists (range_with_len 0 n)) ++ lists n ≡ front ++ flat_map lists (range_with_len 0 (n + 1))
  lists-more lists front n = append_assoc front (flat_map lists (range_with_len 0 n)) (lists n) ∙ ap (λ (values : List X). front ++ values) (sym (flat_map-more lists n))

  -- a list that grew by the value of the next number
  pub values_grow : (value : ℕ → X) (front : List X) (n : ℕ) (before after : List X)
      → before ≡ front ++ map value (range_with_len 0 n)
      → after ≡ before ++ value n ∷ []
      → after ≡ front ++ map value (range_with_len 0 (n + 1))
  values_grow value front n before after so_far next = next ∙ (ap (λ (values : List X). values ++ value n ∷ []) so_far ∙ values-more value front n)

  -- a list that grew by the list of the next number
  pub lists_grow : (lists : ℕ → List X) (front : List X) (n : ℕ) (before after : List X)
      → before ≡ front ++ flat_map lists (range_with_len 0 n)
      → after ≡ before ++ lists n
      → after ≡ front ++ flat_map lists (range_with_len 0 (n + 1))
  lists_grow lists front n before after so_far next = next ∙ (ap (λ (values : List X). values ++ lists n) so_far ∙ lists-more lists front n)
