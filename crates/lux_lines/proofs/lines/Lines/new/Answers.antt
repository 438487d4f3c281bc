use Rattle.std.proofs.Common.{refl, arith}
use Rattle.lux_lines.specs.Lines.{lines, starts_line}
use Rattle.lux_lines.proofs.lines.Lines.new.Goals as goal

pub invariant_of-result : goal.invariant_of-result
unfolding starts_line lines
invariant_of-result c = record { fits = c.requires; within = omega arith; few = omega arith; left = refl; counted = λ _. refl; at_start = λ _. refl }
