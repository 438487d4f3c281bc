use Rattle.std.proofs.Common.{◌≡◌, ℕ, ◌+◌, ◌*◌, ◌<◌, ◌≤◌, ◌^◌, length, get_or}
use Rattle.flux_system.specs.System.{scale}
use Rattle.shot_core.specs.Shapes.{AreSmall, parts_with}
use Rattle.shot_core.proofs.hands.Hand.carry.Given as goal

-- what is there stands for the same parts as before, and the sums of the patches before j are 0
abbrev pub invariant-loop-j : goal.invariant-loop-j
invariant-loop-j l = record {
  of_amounts : length l.self-inside.amounts ≡ length l.fn.self.amounts;
  of_fractions : length l.self-inside.fractions ≡ length l.fn.self.amounts;
  of_highs : length l.highs ≡ length l.fn.self.amounts;
  of_lows : length l.lows ≡ length l.fn.self.amounts;
  small : AreSmall l.self-inside.fractions;
  total : (k : ℕ) → k < length l.fn.self.amounts → scale * get_or l.self-inside.amounts k 0 + parts_with l.highs l.lows l.self-inside.fractions k ≡ scale * get_or l.fn.self.amounts k 0 + parts_with l.fn.highs l.fn.lows l.fn.self.fractions k;
  low : (k : ℕ) → k < length l.fn.self.amounts → get_or l.lows k 0 ≤ 16 * 10 ^ 18;
  high_done : (k : ℕ) → k < l.j → get_or l.highs k 0 ≡ 0;
  low_done : (k : ℕ) → k < l.j → get_or l.lows k 0 ≡ 0;
}
