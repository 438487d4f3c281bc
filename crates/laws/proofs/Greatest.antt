-- The greatest number up to a most that passes a test.
use Rattle.std.proofs.Common.{◌≡◌, ℕ, ◌<◌, ◌≤◌, suc, zero, Bool, true, false, arith}
use Rattle.laws.specs.Greatest.{greatest_up_to}

pub greatest-within : (most : ℕ) (test : ℕ → Bool) → greatest_up_to most test ≤ most
unfolding greatest_up_to
greatest-within zero test = omega arith
greatest-within (suc most) test = grind (arith, greatest-within most test)

pub greatest-passes : (most : ℕ) (test : ℕ → Bool) → test 0 ≡ true → test (greatest_up_to most test) ≡ true
unfolding greatest_up_to
greatest-passes zero test h = h
greatest-passes (suc most) test h = grind (arith, greatest-passes most test h)

-- none above it passes
pub past_greatest : (most : ℕ) (test : ℕ → Bool) (k : ℕ) → greatest_up_to most test < k → k ≤ most → test k ≡ false
unfolding greatest_up_to
past_greatest zero test k h within = grind arith
past_greatest (suc most) test k h within = grind (arith, past_greatest most test k)

-- it is the one that passes where none above does
pub greatest-is : (most : ℕ) (test : ℕ → Bool) (k : ℕ) → k ≤ most → test k ≡ true → ((j : ℕ) → k < j → j ≤ most → test j ≡ false) → greatest_up_to most test ≡ k
unfolding greatest_up_to
greatest-is zero test k within passes fails = omega arith
greatest-is (suc most) test k within passes fails = grind (arith, greatest-is most test k, fails)
