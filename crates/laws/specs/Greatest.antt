-- The greatest number that passes a test.
use Rattle.std.specs.Prelude.{ℕ, zero, suc, Bool, if◌then◌else◌}

-- the greatest number up to a most that passes a test, 0 where none does
unfoldable pub greatest_up_to : ℕ → (ℕ → Bool) → ℕ
greatest_up_to zero test = zero
greatest_up_to (suc most) test = if test (suc most) then suc most else greatest_up_to most test
