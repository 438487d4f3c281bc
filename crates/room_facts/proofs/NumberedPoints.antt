-- The intervals of the points of a grid, one by one.
use Rattle.std.proofs.Common.{◌≡◌, ℕ, zero, suc, ◌+◌, ◌<◌, List, [], ◌∷◌, ◌++◌, length, map, arith}
use Rattle.std.specs.Prelude.{slice_index_or}
use Rattle.std.specs.List.{range_with_len, AllZip}
use Rattle.std.proofs.lemmas.List.FromFn.{get_or-map-range_with_len, length-map-range_with_len}
use Rattle.laws.proofs.Ranges.{map-more}

pub more : (f : ℕ → ℕ × ℕ) (n : ℕ) → map f (range_with_len 0 (n + 1)) ≡ map f (range_with_len 0 n) ++ f n ∷ []
more f n = map-more f n

pub how_many : (f : ℕ → ℕ × ℕ) (n : ℕ) → length (map f (range_with_len 0 n)) ≡ n
how_many f n = length-map-range_with_len f 0 n

pub at : (f : ℕ → ℕ × ℕ) (n g : ℕ) → g < n → slice_index_or (map f (range_with_len 0 n)) g (0, 0) ≡ f g
at f n g inside = get_or-map-range_with_len f 0 n g g (0, 0) inside (omega arith)

-- a relation of the points and of values that are numbered, place by place
pub all_numbered : (R : ℕ × ℕ → ℕ → Type 0) (f : ℕ → ℕ) (points : List (ℕ × ℕ)) (a n : ℕ) → length points ≡ n
    → ((g : ℕ) → g < n → R (slice_index_or points g (0, 0)) (f (a + g))) → AllZip R points (map f (range_with_len a n))
all_numbered R f [] a zero many holds = tt
all_numbered R f [] a (suc n) many holds = absurd (omega arith)
all_numbered R f (p ∷ points) a zero many holds = absurd (omega arith)
all_numbered R f (p ∷ points) a (suc n) many holds =
    let first : a + 0 ≡ a = omega arith in (
      rw first at (holds 0 (omega arith)),
      all_numbered R f points (a + 1) n (omega arith) (λ g inside. let next : a + suc g ≡ (a + 1) + g = omega arith in rw next at (holds (suc g) (omega arith))),
    )
