use Rattle.std.proofs.Common.{◌≡◌, ℕ, ◌+◌, ◌*◌, ◌<◌, length, get_or}
use Rattle.flux_system.specs.System.{scale, patches}
use Rattle.shot_core.specs.Shots.{parts_after}
use Rattle.shot_core.specs.Shapes.{AreSmall}
use Rattle.shot_core.proofs.hands.Hand.book.Given as goal

-- what is there and what the rest passes on is what all of it passes on
abbrev pub invariant-loop-rest : goal.invariant-loop-rest
invariant-loop-rest l = record {
  of_amounts : length l.self-inside.amounts ≡ patches l.system;
  of_fractions : length l.self-inside.fractions ≡ patches l.system;
  small : AreSmall l.self-inside.fractions;
  total : (j : ℕ) → j < patches l.system → scale * get_or l.self-inside.amounts j 0 + parts_after l.system l.patch l.rest l.self-inside.fractions j ≡ scale * get_or l.fn.self.amounts j 0 + parts_after l.system l.patch l.t l.fn.self.fractions j;
}

abbrev pub decreases-loop-rest : goal.decreases-loop-rest
decreases-loop-rest l = l.rest
