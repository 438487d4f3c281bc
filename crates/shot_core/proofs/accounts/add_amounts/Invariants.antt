use Rattle.std.proofs.Common.{◌≡◌, ℕ, ◌+◌, ◌<◌, ◌≤◌, length, get_or}
use Rattle.shot_core.proofs.accounts.add_amounts.Given as goal

abbrev pub invariant-loop-j : goal.invariant-loop-j
invariant-loop-j l = record {
  long : length l.sums ≡ length l.fn.sums;
  written : (k : ℕ) → k < l.j → get_or l.sums k 0 ≡ get_or l.fn.sums k 0 + get_or l.more k 0;
  others : (k : ℕ) → l.j ≤ k → get_or l.sums k 0 ≡ get_or l.fn.sums k 0;
}
