use Rattle.std.proofs.Common.{◌≡◌, ℕ, ◌+◌, ◌*◌, ◌<◌, length, get_or}
use Rattle.flux_system.specs.System.{scale}
use Rattle.shot_core.proofs.parts.carry.Given as goal

abbrev pub invariant-loop-j : goal.invariant-loop-j
invariant-loop-j l = record {
  of_residual : length l.residual ≡ length l.fn.residual;
  of_fractions : length l.fractions ≡ length l.fn.residual;
  same : (k : ℕ) → k < length l.fn.residual → scale * get_or l.residual k 0 + get_or l.fractions k 0 ≡ scale * get_or l.fn.residual k 0 + get_or l.fn.fractions k 0;
  small : (k : ℕ) → k < l.j → get_or l.fractions k 0 < scale;
}
