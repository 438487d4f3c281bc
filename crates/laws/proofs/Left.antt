-- What is left of a list from a place on.
use Rattle.std.proofs.Common.{◌≡◌, ℕ, zero, suc, ◌+◌, ◌<◌, List, [], ◌∷◌, Some, None, length, drop, refl, arith, add-one}
use Rattle.std.specs.Prelude.{slice_get}

module _ {X : Type 0} where
  -- it begins with the element at its place
  pub left_is : (xs : List X) (k : ℕ) (x : X) → slice_get xs k ≡ Some x → (drop k xs ≡ x ∷ drop (k + 1) xs) × (k < length xs)
  left_is [] k x h = absurd (cc)
  left_is (y ∷ xs) zero x h = (cc, omega arith)
  left_is (y ∷ xs) (suc k) x h = let more = left_is xs k x h in (rw add-one (rw add-one at more.0), omega (arith, more.1))

  pub nothing_left : (xs : List X) (k : ℕ) → slice_get xs k ≡ None → drop k xs ≡ []
  nothing_left [] zero h = refl
  nothing_left [] (suc k) h = refl
  nothing_left (y ∷ xs) zero h = absurd (cc)
  nothing_left (y ∷ xs) (suc k) h = nothing_left xs k h
