use Rattle.std.proofs.Common.{◌≡◌, ℕ, ◌+◌, ◌*◌, ◌<◌, length, get_or, drop}
use Rattle.flux_system.specs.System.{scale, patches}
use Rattle.flux_system.specs.Shapes.{share_in}
use Rattle.shot_core.specs.Shots.{parts_after}
use Rattle.shot_core.specs.Shapes.{AreSmall}
use Rattle.shot_core.proofs.parts.pass_on.Given as goal

-- what is there and what the rest of the row gives is what the shot leaves
abbrev pub invariant-loop-entry : goal.invariant-loop-entry
invariant-loop-entry l = record {
  of_residual : length l.residual ≡ patches l.system;
  of_fractions : length l.fractions ≡ patches l.system;
  small : AreSmall l.fractions;
  total : (j : ℕ) → j < patches l.system → scale * get_or l.residual j 0 + get_or l.fractions j 0 + l.factor * share_in (drop l.entry-index l.row) j ≡ scale * get_or l.fn.residual j 0 + parts_after l.system l.patch l.t l.fn.fractions j;
}
