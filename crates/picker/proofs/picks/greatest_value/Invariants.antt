use Rattle.std.proofs.Common.{ℕ, ◌<◌, ◌≤◌, get_or}
use Rattle.picker.proofs.picks.greatest_value.Given as goal

-- the least number that no value so far exceeds
abbrev pub invariant-loop-value : goal.invariant-loop-value
invariant-loop-value l = record {
  bound : (k : ℕ) → k < l.value-index → get_or l.values k 0 ≤ l.most;
  least : (m : ℕ) → ((k : ℕ) → k < l.value-index → get_or l.values k 0 ≤ m) → l.most ≤ m;
}
