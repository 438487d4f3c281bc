-- Rows of one length, one behind the other: place j of row i is place i * n + j of the whole.
use Rattle.std.proofs.Common.{◌≡◌, ℕ, ◌+◌, ◌*◌, ◌<◌, ◌≤◌, List, [], ◌∷◌, ◌++◌, length, get_or, take, drop, sym, subst, ◌∙◌, ap, arith, length-append, length-take, length-drop}
use Rattle.std.proofs.Math.Seq.{take-append_seam, drop-append_seam}
use Rattle.std.proofs.lemmas.Grind.{flat_map-append}
use Rattle.std.proofs.lemmas.List.{take-append-drop}
use Rattle.std.specs.List.{flat_map, sum}
use Rattle.std.proofs.lemmas.List.Concat.{get_or-flat_map}
use Rattle.flux_system.specs.Sums.{sum_below}
use Rattle.flux_system.proofs.Sums.{sum-same, sum-places}

module _ {X : Type 0} (row : X → List ℕ) (n : ℕ) (each : (x : X) → length (row x) ≡ n) where
  pub length-rows : (xs : List X) → length (flat_map row xs) ≡ length xs * n
  length-rows [] = omega arith
  length-rows (x ∷ xs) = omega (arith, length-append (row x) (flat_map row xs), each x, length-rows xs)

  place-in_rows : (xs : List X) (i j : ℕ) (x : X) → i < length xs → j < n → get_or (flat_map row xs) (i * n + j) 0 ≡ get_or (row (get_or xs i x)) j 0
  place-in_rows xs i j x in_rows in_row =
      let long = each (get_or xs i x) in
      let before : length (flat_map row (take i xs)) ≡ i * n = length-rows (take i xs) ∙ ap (λ (k : ℕ). k * n) (length-take i xs ∙ omega arith) in
      subst (λ (k : ℕ). get_or (flat_map row xs) (k + j) 0 ≡ get_or (row (get_or xs i x)) j 0) before
      (get_or-flat_map row xs i j x 0 in_rows (omega arith))

  -- the sum of row i, read from the whole
  pub total-in_rows : (xs : List X) (i : ℕ) (x : X) → i < length xs → sum_below n (λ j. get_or (flat_map row xs) (i * n + j) 0) ≡ sum (row (get_or xs i x))
  total-in_rows xs i x in_rows =
      sum-same n (λ j. get_or (flat_map row xs) (i * n + j) 0) (λ j. get_or (row (get_or xs i x)) j 0) (λ j in_row. place-in_rows xs i j x in_rows in_row)
      ∙ sym (sum-places (row (get_or xs i x)) ∙ ap (λ (k : ℕ). sum_below k (λ j. get_or (row (get_or xs i x)) j 0)) (each (get_or xs i x)))

  front : (xs : List X) (i : ℕ) → i ≤ length xs → length (flat_map row (take i xs)) ≡ i * n
  front xs i le = length-rows (take i xs) ∙ ap (λ (k : ℕ). k * n) (length-take i xs ∙ omega arith)

  cut : (xs : List X) (i : ℕ) → flat_map row xs ≡ flat_map row (take i xs) ++ flat_map row (drop i xs)
  cut xs i = ap (flat_map row) (sym (take-append-drop i xs)) ∙ flat_map-append row (take i xs) (drop i xs)

  take-rows : (xs : List X) (i : ℕ) → i ≤ length xs → take (i * n) (flat_map row xs) ≡ flat_map row (take i xs)
  take-rows xs i le =
      subst (λ (k : ℕ). take k (flat_map row xs) ≡ flat_map row (take i xs)) (front xs i le)
      (ap (take (length (flat_map row (take i xs)))) (cut xs i) ∙ take-append_seam (flat_map row (take i xs)) (flat_map row (drop i xs)))

  drop-rows : (xs : List X) (i : ℕ) → i ≤ length xs → drop (i * n) (flat_map row xs) ≡ flat_map row (drop i xs)
  drop-rows xs i le =
      subst (λ (k : ℕ). drop k (flat_map row xs) ≡ flat_map row (drop i xs)) (front xs i le)
      (ap (drop (length (flat_map row (take i xs)))) (cut xs i) ∙ drop-append_seam (flat_map row (take i xs)) (flat_map row (drop i xs)))

  -- some rows in the middle
  pub rows-between : (xs : List X) (i many : ℕ) → i + many ≤ length xs → take (many * n) (drop (i * n) (flat_map row xs)) ≡ flat_map row (take many (drop i xs))
  rows-between xs i many le =
      ap (take (many * n)) (drop-rows xs i (omega arith))
      ∙ take-rows (drop i xs) many (let rest = length-drop i xs in omega arith)
