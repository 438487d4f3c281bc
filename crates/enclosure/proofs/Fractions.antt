-- Quotients that are rounded up, and the fractions that they are of an amount.
use Rattle.std.proofs.Common.{◌≡◌, ℕ, suc, ◌+◌, ◌*◌, ◌<◌, ◌≤◌, max, arith, ⊎_elim}
use Rattle.std.specs.Int.{div_ceil}
use Rattle.std.proofs.lemmas.Nat.{mul-le}
use Rattle.std.proofs.lemmas.Grind.{div_ceil_times}
use Rattle.std.proofs.lemmas.Bool.{cases_lt}
use Rattle.std.proofs.Math.Nat.{le_of_mul-le-mul_left}

-- a quotient that is rounded up is the least that reaches
pub div_ceil-le : (a k m : ℕ) → 0 < k → a ≤ m * k → div_ceil a k ≤ m
div_ceil-le a k m some h = within a (div_ceil a k) m k (div_ceil_times a k some).1 h
  where
    within : (a q m k : ℕ) → q * k < a + k → a ≤ m * k → q ≤ m
    within a q m k lt le = ⊎_elim (λ more. let by = mul-le (suc m) k q k (omega arith) (omega arith) in absurd (omega arith)) (λ less. less) (cases_lt m q)

-- a fraction that is no greater takes no more of an amount
pub div_ceil-cross : (a k b m amount : ℕ) → 0 < k → 0 < m → a * m ≤ b * k → div_ceil (a * amount) k ≤ div_ceil (b * amount) m
div_ceil-cross a k b m amount some_k some_m cross =
    div_ceil-le (a * amount) k (div_ceil (b * amount) m) some_k (reaches (div_ceil (b * amount) m) (div_ceil_times (b * amount) m some_m).0)
  where
    reaches : (q : ℕ) → b * amount ≤ q * m → a * amount ≤ q * k
    reaches q enough =
        let left = mul-le (a * m) amount (b * k) amount cross (omega arith) in
        let right = mul-le (b * amount) k (q * m) k enough (omega arith) in
        le_of_mul-le-mul_left {k = m} (omega arith) some_m

-- the greater of two fractions takes the more of an amount
pub div_ceil-greater : (a k b m amount : ℕ) → 0 < k → 0 < m → a * m ≤ b * k → div_ceil (b * amount) m ≡ max (div_ceil (a * amount) k) (div_ceil (b * amount) m)
div_ceil-greater a k b m amount some_k some_m cross = let le = div_ceil-cross a k b m amount some_k some_m cross in omega arith

-- the same where the first is the greater
pub div_ceil-greater_first : (a k b m amount : ℕ) → 0 < k → 0 < m → b * k ≤ a * m → div_ceil (a * amount) k ≡ max (div_ceil (a * amount) k) (div_ceil (b * amount) m)
div_ceil-greater_first a k b m amount some_k some_m cross = let le = div_ceil-cross b m a k amount some_m some_k cross in omega arith
