-- Sums and least values over the numbers below a count.
use Rattle.std.specs.Prelude.{ℕ, zero, suc, ◌+◌, min}

-- the sum of f over the numbers below n
abbrev pub sum_below : ℕ → (ℕ → ℕ) → ℕ
sum_below zero f = 0
sum_below (suc n) f = sum_below n f + f n

-- the least value of f at 0 and at the numbers below n
abbrev pub least_below : ℕ → (ℕ → ℕ) → ℕ
least_below zero f = f 0
least_below (suc n) f = min (least_below n f) (f n)
