-- The first place of a list that passes a test.
use Rattle.std.proofs.Common.{◌≡◌, ℕ, ◌-◌, ◌<◌, ◌≤◌, Bool, true, false, inl, inr, ltb, List, length, Some, None, sym, ap, ◌∙◌, arith}
use Rattle.std.specs.Prelude.{slice_index, position, IsSome, is_some}
use Rattle.std.specs.List.{list_any, position_or_len}
use Rattle.std.proofs.lemmas.Bool.{cond-true, cond-false, lt-ltb, le-ltb, cases_lt, false≢true}
use Rattle.std.proofs.lemmas.List.Sums.{position_or_len_is, fails_before_first}
use Rattle.std.proofs.lemmas.List.Folds.{Any-from_list_any}

-- the first place that passes
pub position_is : (p : ℕ → Bool) (xs : List ℕ) (k : ℕ) → k < length xs → ((j : ℕ) → j < k → p (slice_index xs j) ≡ false) → p (slice_index xs k) ≡ true → position p xs ≡ Some k
position_is p xs k inside before here =
    let first = position_or_len_is p xs k 0 (omega arith) before (λ _. here) in
    cond-true (ltb (position_or_len p xs) (length xs)) (Some (position_or_len p xs)) None (lt-ltb (position_or_len p xs) (length xs) (omega arith)) ∙ ap Some first

-- where one passes, there is a first place that does
pub position_some : (p : ℕ → Bool) (xs : List ℕ) → list_any p xs ≡ true → IsSome (position p xs)
position_some p xs any =
    elim (cases_lt (position_or_len p xs) (length xs)) [
      | inl before ↦ ap is_some (cond-true (ltb (position_or_len p xs) (length xs)) (Some (position_or_len p xs)) None (lt-ltb _ _ before))
      | inr all ↦ (let found = Any-from_list_any p xs any in absurd (false≢true (sym (fails_before_first p xs found.0 found.1 (omega (arith, found.2))) ∙ (ap p found.3 ∙ found.4))))
    ]

-- where none passes, there is no place
pub position_none : (p : ℕ → Bool) (xs : List ℕ) → ((j : ℕ) → j < length xs → p (slice_index xs j) ≡ false) → position p xs ≡ None
position_none p xs none =
    let past = position_or_len_is p xs (length xs) 0 (omega arith) none (λ h. absurd (omega arith)) in
    cond-false (ltb (position_or_len p xs) (length xs)) (Some (position_or_len p xs)) None (le-ltb (position_or_len p xs) (length xs) (omega arith))

-- a list that begins lower than it ends has two elements
pub two_of : (xs : List ℕ) (low high : ℕ) → low < high → slice_index xs 0 ≡ low → slice_index xs (length xs - 1) ≡ high → 2 ≤ length xs
two_of xs low high less first last =
    elim (cases_lt (length xs) 2) [
      | inl short ↦ absurd (let e : length xs - 1 ≡ 0 = omega arith in let same = ap (slice_index xs) e in omega arith)
      | inr long ↦ long
    ]
