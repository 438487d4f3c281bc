-- Quotients of a product, where the numbers have 128 bits, and square roots.
use Rattle.std.specs.Prelude.{ℕ, ◌+◌, ◌-◌, ◌*◌, ◌/◌, ◌^◌, ◌==◌, ◌&&◌, not, nat_lt, nat_le, Bool, if◌then◌else◌, Option, Some, None}
use Rattle.laws.specs.Greatest.{greatest_up_to}

-- a times b has 128 bits and the divisor isn't 0
abbrev pub is_divisible : ℕ → ℕ → ℕ → Bool
is_divisible a b divisor = nat_lt (a * b) (2 ^ 128) && not (divisor == 0)

-- a times b, divided and cut
abbrev pub quotient_down : ℕ → ℕ → ℕ → Option ℕ
quotient_down a b divisor = if is_divisible a b divisor then Some (a * b / divisor) else None

-- a times b, divided and rounded up
abbrev pub quotient_up : ℕ → ℕ → ℕ → Option ℕ
quotient_up a b divisor = if is_divisible a b divisor && nat_lt ((a * b + (divisor - 1)) / divisor) (2 ^ 128) then Some ((a * b + (divisor - 1)) / divisor) else None

-- the square root of a number, cut: the greatest number whose square is at most that number
unfoldable pub root : ℕ → ℕ
root number = greatest_up_to number (λ candidate. nat_le (candidate * candidate) number)
