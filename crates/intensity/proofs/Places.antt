-- The last of some rising angles that is at or below another.
use Rattle.std.proofs.Common.{◌≡◌, ℕ, zero, suc, ◌+◌, ◌-◌, ◌<◌, ◌≤◌, Bool, true, false, leb, inl, inr, List, [], ◌∷◌, length, refl, ◌∙◌, arith}
use Rattle.std.specs.Prelude.{slice_index}
use Rattle.std.specs.List.{count_by, AllWithin}
use Rattle.std.specs.List.Sorted.{IsStrictlyIncreasing, IsNonDecreasing, IsPartitionPoint}
use Rattle.std.proofs.lemmas.Bool.{leb-true, leb-false, cases_lt}
use Rattle.std.proofs.lemmas.List.{get_or_default}
use Rattle.std.proofs.lemmas.List.Sorted.{IsNonDecreasingBy-from_all_adjacent}
use Rattle.std.proofs.lemmas.List.Sums.{sum_by-cons}
use Rattle.photo_web.specs.Validity.{ArePlanes}
use Rattle.intensity.specs.Intensity.{last_up_to}

-- where those that pass stand first, they are as many as the place where they end
pub count_at : (p : ℕ → Bool) (xs : List ℕ) (i : ℕ) → i ≤ length xs → AllWithin (λ x. p x ≡ true) xs 0 i → AllWithin (λ x. p x ≡ false) xs i (length xs) → count_by p xs ≡ i
count_at p [] i bound passing failing = omega arith
count_at p (x ∷ xs) zero bound passing failing =
    let head : p x ≡ false = failing 0 x (omega arith) (omega arith) in
    let tail : count_by p xs ≡ 0 = count_at p xs zero (omega arith) (λ k d l h. absurd (omega arith)) (λ k d l h. failing (suc k) d (omega arith) (omega arith)) in
    sum_by-cons _ x xs ∙ rw (head, tail) refl
count_at p (x ∷ xs) (suc i) bound passing failing =
    let head : p x ≡ true = passing 0 x (omega arith) (omega arith) in
    let tail : count_by p xs ≡ i = count_at p xs i (omega arith) (λ k d l h. passing (suc k) d (omega arith) (omega arith)) (λ k d l h. failing (suc k) d (omega arith) (omega arith)) in
    sum_by-cons _ x xs ∙ rw (head, tail) (omega arith)

-- rising angles fall nowhere
pub falls_nowhere : (angles : List ℕ) → IsStrictlyIncreasing angles → IsNonDecreasing angles
falls_nowhere angles rising =
    IsNonDecreasingBy-from_all_adjacent (λ x. x) angles (λ k d inside.
    let up = rising k inside in
    rw (get_or_default angles k d 0 (omega arith), get_or_default angles (k + 1) d 0 inside) (omega arith))

-- what follows where the angles at or below an angle are the first so many
module _ (angle : ℕ) (angles : List ℕ) (count : ℕ) (point : IsPartitionPoint (λ x. leb x angle ≡ true) (λ x. leb x angle ≡ false) angles count) where
  pub some_up_to : 0 < length angles → slice_index angles 0 ≤ angle → 0 < count
  some_up_to some first =
      elim (cases_lt 0 count) [
        | inl h ↦ h
        | inr h ↦ let above = leb-false _ _ (point.1 0 0 (omega arith) some) in absurd (omega arith)
      ]

  pub last_is : count ≤ length angles → count - 1 ≡ last_up_to angle angles
  last_is bound = let same = count_at (λ x. leb x angle) angles count bound point.0 point.1 in omega arith

  pub last_below : 0 < count → slice_index angles (count - 1) ≤ angle
  last_below positive = leb-true _ _ (point.0 (count - 1) 0 (omega arith) (omega arith))

  pub next_above : 0 < count → count - 1 + 1 < length angles → angle < slice_index angles (count - 1 + 1)
  next_above positive inside = leb-false _ _ (point.1 (count - 1 + 1) 0 (omega arith) inside)

-- no plane is past a full turn
pub within_a_turn : (planes : List ℕ) (place : ℕ) → ArePlanes planes → place < length planes → slice_index planes place ≤ 360000
within_a_turn planes place are inside =
    let below = falls_nowhere planes are.rising place (length planes - 1) 0 (omega arith) (omega arith) in
    omega (arith, are.close)
