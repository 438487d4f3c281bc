-- Laws of sums over a list, of what is said of each of its values.
use Rattle.std.proofs.Common.{◌≡◌, ℕ, ◌+◌, ◌*◌, ◌≤◌, List, [], ◌∷◌, All, sum_by, refl, ap, arith}
use Rattle.std.proofs.lemmas.List.Elements.{All-head, All-tail}
use Rattle.std.proofs.lemmas.List.Sums.{sum_by-cons}
use Rattle.flux_system.specs.System.{scale}

module _ {V : Type 0} where
  pub total-same : (f g : V → ℕ) (vs : List V) → All (λ v. f v ≡ g v) vs → sum_by f vs ≡ sum_by g vs
  total-same f g [] h = refl
  total-same f g (v ∷ vs) h =
      let here = All-head (λ w. f w ≡ g w) v vs h in
      omega (arith, sum_by-cons f v vs, sum_by-cons g v vs, total-same f g vs (All-tail (λ w. f w ≡ g w) v vs h))

  pub total-le : (f g : V → ℕ) (vs : List V) → All (λ v. f v ≤ g v) vs → sum_by f vs ≤ sum_by g vs
  total-le f g [] h = omega arith
  total-le f g (v ∷ vs) h =
      let here = All-head (λ w. f w ≤ g w) v vs h in
      omega (arith, sum_by-cons f v vs, sum_by-cons g v vs, total-le f g vs (All-tail (λ w. f w ≤ g w) v vs h))

  pub total-add : (f g : V → ℕ) (vs : List V) → sum_by (λ v. f v + g v) vs ≡ sum_by f vs + sum_by g vs
  total-add f g [] = refl
  total-add f g (v ∷ vs) = omega (arith, sum_by-cons (λ w. f w + g w) v vs, sum_by-cons f v vs, sum_by-cons g v vs, total-add f g vs)

  pub total-times : (f : V → ℕ) (k : ℕ) (vs : List V) → sum_by (λ v. f v * k) vs ≡ sum_by f vs * k
  total-times f k [] = omega arith
  total-times f k (v ∷ vs) = let more = ap (λ (x : ℕ). x * k) (sum_by-cons f v vs) in omega (arith, sum_by-cons (λ w. f w * k) v vs, more, total-times f k vs)

  pub total-parts : (f g e : V → ℕ) (vs : List V) → sum_by (λ v. scale * (f v + g v) + e v) vs ≡ scale * (sum_by f vs + sum_by g vs) + sum_by e vs
  total-parts f g e [] = refl
  total-parts f g e (v ∷ vs) =
      omega (arith, sum_by-cons (λ w. scale * (f w + g w) + e w) v vs, sum_by-cons f v vs, sum_by-cons g v vs, sum_by-cons e v vs, total-parts f g e vs)
