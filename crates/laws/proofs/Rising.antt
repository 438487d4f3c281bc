-- Rising lists.
use Rattle.std.proofs.Common.{◌≡◌, ℕ, ◌+◌, ◌<◌, ◌≤◌, inl, inr, List, [], ◌∷◌, ◌++◌, length, ap, arith}
use Rattle.std.specs.Prelude.{slice_index}
use Rattle.std.specs.List.Sorted.{IsStrictlyIncreasing}
use Rattle.std.proofs.lemmas.Bool.{cases_lt}
use Rattle.std.proofs.lemmas.List.{get_or_push, get_or_append_left, length_push}
use Rattle.std.proofs.lemmas.List.Kept.{AllPairs-from_increasing}

-- a later place has a greater number
pub rising_lt : (xs : List ℕ) → IsStrictlyIncreasing xs → (i j : ℕ) → i < j → j < length xs → slice_index xs i < slice_index xs j
rising_lt xs up i j h inside = AllPairs-from_increasing xs up i j 0 h inside

-- a place that isn't earlier has no smaller number
pub rising_le : (xs : List ℕ) → IsStrictlyIncreasing xs → (i j : ℕ) → i ≤ j → j < length xs → slice_index xs i ≤ slice_index xs j
rising_le xs up i j h inside =
    elim (cases_lt i j) [
      | inl lt ↦ let less = rising_lt xs up i j lt inside in omega arith
      | inr ge ↦ let same : i ≡ j = omega arith in let e = ap (slice_index xs) same in omega arith
    ]

-- a number above the last of a rising list keeps it rising
pub rising_push : (xs : List ℕ) (x : ℕ) → IsStrictlyIncreasing xs → ((k : ℕ) → k + 1 ≡ length xs → slice_index xs k < x) → IsStrictlyIncreasing (xs ++ x ∷ [])
rising_push xs x rising above = λ k inside.
    let len = length_push xs x in
    elim (cases_lt (k + 1) (length xs)) [
      | inl before ↦ rw (get_or_append_left xs (x ∷ []) 0 k (omega arith), get_or_append_left xs (x ∷ []) 0 (k + 1) before) (rising k before)
      | inr last ↦
          let less = above k (omega arith) in
          rw (get_or_append_left xs (x ∷ []) 0 k (omega arith), get_or_push xs x 0 (k + 1) (omega arith)) less
    ]
