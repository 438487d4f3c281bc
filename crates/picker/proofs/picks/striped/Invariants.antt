use Rattle.std.proofs.Common.{◌≡◌, ℕ, ◌-◌, ◌<◌, ◌%◌, length, get_or}
use Rattle.picker.proofs.picks.striped.Given as goal

-- no value of the stripe reaches the threshold before the place, which is of the stripe
abbrev pub invariant-loop-place : goal.invariant-loop-place
invariant-loop-place l = record {
  stripe : (i : ℕ) → i < l.place → i % l.m ≡ l.k → get_or l.values i 0 < l.threshold;
  own : l.place < length l.values → l.place % l.m ≡ l.k;
}

abbrev pub decreases-loop-place : goal.decreases-loop-place
decreases-loop-place l = length l.values - l.place
