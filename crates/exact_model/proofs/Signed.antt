-- Signed numbers and their sums, read as the difference of two naturals.
use Rattle.std.proofs.Common.{◌≡◌, ℕ, zero, suc, ◌+◌, ◌*◌, refl, ap, arith, ℤ, pos, negsuc, ◌+ℤ◌, ◌*ℤ◌}
use Rattle.std.proofs.lemmas.Int.{ints}
use borrow.Author.Differences.{up, down, product_is}
use Rattle.flux_system.specs.Sums.{sum_below}
use Rattle.flux_system.proofs.Sums.{sum-same}
use Rattle.exact_model.specs.Solution.{sum_signed}

pub sum-parts : (n : ℕ) (f : ℕ → ℤ) → up (sum_signed n f) + sum_below n (λ i. down (f i)) ≡ down (sum_signed n f) + sum_below n (λ i. up (f i))
sum-parts zero f = refl
sum-parts (suc n) f = omega (arith, ints, sum-parts n f)

-- the same for a sum of products
pub sum-parts_by : (n : ℕ) (c : ℕ → ℕ) (x : ℕ → ℤ)
    → up (sum_signed n (λ i. pos (c i) *ℤ x i)) + sum_below n (λ i. c i * down (x i)) ≡ down (sum_signed n (λ i. pos (c i) *ℤ x i)) + sum_below n (λ i. c i * up (x i))
sum-parts_by n c x =
    let whole = sum-parts n (λ i. pos (c i) *ℤ x i) in
    let ups : sum_below n (λ i. up (pos (c i) *ℤ x i)) ≡ sum_below n (λ i. c i * up (x i)) = sum-same n _ _ (λ i h. omega (arith, product_is (pos (c i)) (x i))) in
    let downs : sum_below n (λ i. down (pos (c i) *ℤ x i)) ≡ sum_below n (λ i. c i * down (x i)) = sum-same n _ _ (λ i h. omega (arith, product_is (pos (c i)) (x i))) in
    omega arith

pub is_pos : (z : ℤ) → down z ≡ 0 → z ≡ pos (up z)
is_pos (pos n) e = refl
is_pos (negsuc n) e = absurd (omega arith)

-- a sum of products of naturals
pub sum-pos : (n : ℕ) (c y : ℕ → ℕ) → sum_signed n (λ i. pos (c i) *ℤ pos (y i)) ≡ pos (sum_below n (λ i. c i * y i))
sum-pos zero c y = refl
sum-pos (suc n) c y = ap (λ (z : ℤ). z +ℤ pos (c n * y n)) (sum-pos n c y)
