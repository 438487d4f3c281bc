use Rattle.std.proofs.Common.{◌≡◌, ℕ, ◌<◌, length, get_or, drop}
use Rattle.flux_system.specs.Shapes.{share_in}
use Rattle.shot_core.proofs.brightest.follow.Given as goal

-- the patches that the rest of the row has no share for are right
abbrev pub invariant-loop-entry : goal.invariant-loop-entry
invariant-loop-entry l = record {
  long : length l.tournament ≡ length l.residual;
  right : (j : ℕ) → j < length l.residual → share_in (drop l.entry-index l.row) j ≡ 0 → get_or l.tournament j 0 ≡ get_or l.residual j 0;
}
