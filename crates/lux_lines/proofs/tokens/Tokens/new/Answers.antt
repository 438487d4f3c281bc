use Rattle.std.proofs.Common.{refl, arith}
use Rattle.lux_lines.specs.Tokens.{tokens}
use Rattle.lux_lines.proofs.tokens.Tokens.new.Goals as goal

pub invariant_of-result : goal.invariant_of-result
unfolding tokens
invariant_of-result c = record {
  fits = c.requires.fits;
  lines_fit = c.requires.lines;
  few = omega arith;
  counted_tokens = omega arith;
  left = refl;
  at_place = record { within = omega arith; counted = omega arith; between = λ _ _. refl };
}
