-- Lists that are made place by place.
use Rattle.std.proofs.Common.{◌≡◌, ℕ, ◌<◌, List, [], ◌∷◌, zero, suc, map, length, get_or, set, refl, arith}
use Rattle.std.specs.List.{range_with_len}
use Rattle.std.proofs.lemmas.List.FromFn.{get_or-map-range_with_len, length-map-range_with_len}

pub list-at : (f : ℕ → ℕ) (n j : ℕ) → j < n → get_or (map f (range_with_len 0 n)) j 0 ≡ f j
list-at f n j h = get_or-map-range_with_len f 0 n j j 0 h (omega arith)

pub list-length : (f : ℕ → ℕ) (n : ℕ) → length (map f (range_with_len 0 n)) ≡ n
list-length f n = length-map-range_with_len f 0 n

-- where 0 is set, 0 is read, also past the end
pub set-zero : (xs : List ℕ) (i : ℕ) → get_or (set xs i 0) i 0 ≡ 0
set-zero [] i = refl
set-zero (x ∷ xs) zero = refl
set-zero (x ∷ xs) (suc i) = set-zero xs i
