-- Laws of sums and of least values over the numbers below n, and of sums over a list.
use Rattle.std.proofs.Common.{◌≡◌, ◌≢◌, ℕ, zero, suc, ◌+◌, ◌*◌, ◌<◌, ◌≤◌, List, [], ◌∷◌, map, length, get_or, min, refl, sym, ap, subst, ◌∙◌, arith}
use Rattle.std.specs.List.{sum, sum_by, range_with_len}
use Rattle.std.proofs.lemmas.List.Sums.{sum_by-cons}
use Rattle.std.proofs.lemmas.List.FromFn.{fill_by_all, sum_by-map-range_with_len_more}
use mathlib.Core.Logic.{dite}
use native.Mathlib.Decide.{ℕ_discrete}
use Rattle.flux_system.specs.Sums.{sum_below, least_below}

pub sum-zero : (n : ℕ) → sum_below n (λ _. 0) ≡ 0
sum-zero zero = refl
sum-zero (suc n) = omega (arith, sum-zero n)

pub sum-same : (n : ℕ) (f g : ℕ → ℕ) → ((i : ℕ) → i < n → f i ≡ g i) → sum_below n f ≡ sum_below n g
sum-same zero f g h = refl
sum-same (suc n) f g h = omega (arith, sum-same n f g (λ i l. h i (omega arith)), h n (omega arith))

pub sum-add : (n : ℕ) (f g : ℕ → ℕ) → sum_below n (λ i. f i + g i) ≡ sum_below n f + sum_below n g
sum-add zero f g = refl
sum-add (suc n) f g = omega (arith, sum-add n f g)

pub sum-scale : (n k : ℕ) (f : ℕ → ℕ) → sum_below n (λ i. k * f i) ≡ k * sum_below n f
sum-scale zero k f = omega arith
sum-scale (suc n) k f = omega (arith, sum-scale n k f)

pub sum-le : (n : ℕ) (f g : ℕ → ℕ) → ((i : ℕ) → i < n → f i ≤ g i) → sum_below n f ≤ sum_below n g
sum-le zero f g h = omega arith
sum-le (suc n) f g h = omega (arith, sum-le n f g (λ i l. h i (omega arith)), h n (omega arith))

pub le-sum : (n : ℕ) (f : ℕ → ℕ) (i : ℕ) → i < n → f i ≤ sum_below n f
le-sum zero f i h = absurd (omega arith)
le-sum (suc n) f i h =
    dite (ℕ_discrete i n) (λ e. let same : f i ≡ f n = ap f e in omega arith) (λ ne. let le = le-sum n f i (omega arith) in omega arith)

-- the first m terms
pub sum-front : (m n : ℕ) (f : ℕ → ℕ) → m ≤ n → sum_below m f ≤ sum_below n f
sum-front m zero f h = let e : m ≡ 0 = omega arith in subst (λ (k : ℕ). sum_below k f ≤ 0) (sym e) (omega arith)
sum-front m (suc n) f h =
    dite (ℕ_discrete m (suc n))
    (λ e. subst (λ (k : ℕ). sum_below k f ≤ sum_below (suc n) f) (sym e) (omega arith))
    (λ ne. let le = sum-front m n f (omega arith) in omega arith)

-- one term changed
pub sum-change : (n : ℕ) (f g : ℕ → ℕ) (i : ℕ) → i < n → ((k : ℕ) → k ≢ i → g k ≡ f k) → sum_below n g + f i ≡ sum_below n f + g i
sum-change zero f g i h same = absurd (omega arith)
sum-change (suc n) f g i h same =
    dite (ℕ_discrete i n)
    (λ e.
    let front : sum_below n g ≡ sum_below n f = sum-same n g f (λ k l. same k (λ x. omega arith)) in
    let a : f i ≡ f n = ap f e in
    let b : g i ≡ g n = ap g e in
    omega arith)
    (λ ne.
    let front = sum-change n f g i (omega arith) same in
    let last = same n (λ x. ne (sym x)) in
    omega arith)

pub sum-swap : (n m : ℕ) (f : ℕ → ℕ → ℕ) → sum_below n (λ i. sum_below m (λ j. f i j)) ≡ sum_below m (λ j. sum_below n (λ i. f i j))
sum-swap zero m f = sym (sum-zero m)
sum-swap (suc n) m f = ap (λ x. x + sum_below m (λ j. f n j)) (sum-swap n m f) ∙ sym (sum-add m (λ j. sum_below n (λ i. f i j)) (λ j. f n j))

module _ {V : Type 0} where
  -- the sum over a list of sums is the sum of the sums over the list
  pub sum_by-sum : (n : ℕ) (f : V → ℕ → ℕ) (vs : List V) → sum_by (λ v. sum_below n (λ i. f v i)) vs ≡ sum_below n (λ i. sum_by (λ v. f v i) vs)
  sum_by-sum n f [] = sym (sum-zero n)
  sum_by-sum n f (v ∷ vs) =
      sum_by-cons (λ v. sum_below n (λ i. f v i)) v vs
      ∙ (ap (λ x. sum_below n (λ i. f v i) + x) (sum_by-sum n f vs)
      ∙ (sym (sum-add n (λ i. f v i) (λ i. sum_by (λ w. f w i) vs)) ∙ sum-same n _ _ (λ i l. sym (sum_by-cons (λ w. f w i) v vs))))

-- the sum of a list that is made of f
pub sum-range : (f : ℕ → ℕ) (n : ℕ) → sum (map f (range_with_len 0 n)) ≡ sum_below n f
sum-range f zero = refl
sum-range f (suc n) =
    let more = sum_by-map-range_with_len_more (λ (x : ℕ). x) f 0 n n (omega arith) in
    let at : suc n ≡ n + 1 = omega arith in
    let front = sum-range f n in
    ap (λ (k : ℕ). sum (map f (range_with_len 0 k))) at ∙ (more ∙ ap (λ (x : ℕ). x + f n) front)

-- the sum of a list is that of its values by their places
pub sum-places : (xs : List ℕ) → sum xs ≡ sum_below (length xs) (λ i. get_or xs i 0)
sum-places xs = ap sum (fill_by_all (λ (i : ℕ). get_or xs i 0) xs (length xs) 0 refl (λ k h. refl)) ∙ sum-range (λ (i : ℕ). get_or xs i 0) (length xs)

pub least-same : (n : ℕ) (f g : ℕ → ℕ) → f 0 ≡ g 0 → ((i : ℕ) → i < n → f i ≡ g i) → least_below n f ≡ least_below n g
least-same zero f g first h = first
least-same (suc n) f g first h = let a = least-same n f g first (λ i l. h i (omega arith)) in let b = h n (omega arith) in λ k. min (a k) (b k)

pub least-le : (n : ℕ) (f : ℕ → ℕ) (i : ℕ) → i < n → least_below n f ≤ f i
least-le zero f i h = absurd (omega arith)
least-le (suc n) f i h =
    dite (ℕ_discrete i n) (λ e. let same : f i ≡ f n = ap f e in omega arith) (λ ne. let le = least-le n f i (omega arith) in omega arith)

-- what is below all of some values is below the least of them
pub least-above : (n : ℕ) (f : ℕ → ℕ) (b : ℕ) → b < f 0 → ((i : ℕ) → i < n → b < f i) → b < least_below n f
least-above zero f b first h = first
least-above (suc n) f b first h = let a = least-above n f b first (λ i l. h i (omega arith)) in let c = h n (omega arith) in omega arith
