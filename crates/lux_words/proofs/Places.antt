-- The places that are left, one at a time.
use Rattle.std.proofs.Common.{◌≡◌, ℕ, suc, ◌+◌, ◌-◌, ◌<◌, ◌++◌, List, [], ◌∷◌, filter, Bool, true, false, refl, ap, sym, ◌∙◌, arith, append_assoc}
use Rattle.std.specs.List.{range_with_len}

-- a place, and the places behind it
pub first_place : (place end : ℕ) → place < end → range_with_len place (end - place) ≡ place ∷ range_with_len (place + 1) (end - (place + 1))
first_place place end inside = let more : end - place ≡ suc (end - (place + 1)) = omega arith in rw more refl

-- the places that are left and pass a test, with the next or without it
module _ (test : ℕ → Bool) (place end : ℕ) (inside : place < end) where
  pub kept_more : (before : List ℕ) → test place ≡ true → before ++ filter test (range_with_len place (end - place)) ≡ (before ++ place ∷ []) ++ filter test (range_with_len (place + 1) (end - (place + 1)))
  kept_more before passes = ap (λ (l : List ℕ). before ++ filter test l) (first_place place end inside) ∙ rw passes (sym (append_assoc before (place ∷ []) (filter test (range_with_len (place + 1) (end - (place + 1))))))

  pub left_out : test place ≡ false → filter test (range_with_len place (end - place)) ≡ filter test (range_with_len (place + 1) (end - (place + 1)))
  left_out fails = ap (filter test) (first_place place end inside) ∙ rw fails refl
