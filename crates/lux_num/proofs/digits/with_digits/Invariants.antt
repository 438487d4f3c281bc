use Rattle.std.proofs.Common.{◌≡◌, ℕ, ◌+◌, ◌-◌, ◌*◌, ◌<◌, ◌^◌, fold, take}
use Rattle.lux_num.proofs.digits.with_digits.Given as goal

abbrev pub invariant-loop-digit : goal.invariant-loop-digit
invariant-loop-digit l = record {
  so_far : l.total ≡ fold (λ value digit. 10 * value + (digit - 48)) l.fn.value (take l.digit-index l.digits);
  small : (k : ℕ) → l.fn.value < 10 ^ k → l.total < 10 ^ (k + l.digit-index);
}
