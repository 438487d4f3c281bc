-- Numbers that are read digit by digit.
use Rattle.std.proofs.Common.{◌≡◌, ℕ, ◌+◌, ◌*◌, ◌<◌, ◌≤◌, ◌^◌, ap, ◌∙◌, add-one, arith}
use Rattle.std.proofs.Math.Nat.{pow-suc}

-- one more digit keeps the bound
pub one_more_digit : (k value digit : ℕ) → value < 10 ^ k → digit ≤ 9 → 10 * value + digit < 10 ^ (k + 1)
one_more_digit k value digit small few =
    let power : 10 ^ (k + 1) ≡ 10 ^ k * 10 = ap (λ (e : ℕ). 10 ^ e) (add-one k) ∙ pow-suc 10 k in
    omega arith
