use Rattle.std.proofs.Common.{◌≡◌, ◌-◌, length, drop}
use Rattle.std.specs.Prelude.{find}
use Rattle.lux_lines.specs.Lines.{lines}
use Rattle.lm63_reader.specs.Front.{is_tilt}
use Rattle.lm63_reader.proofs.front.find_tilt.Given as goal

abbrev pub invariant-loop-line : goal.invariant-loop-line
invariant-loop-line l = record {
  text : l.source.text ≡ l.fn.source.text;
  found : find is_tilt (drop l.source.read (lines l.fn.source.text)) ≡ find is_tilt (drop l.fn.source.read (lines l.fn.source.text));
}

abbrev pub decreases-loop-line : goal.decreases-loop-line
decreases-loop-line l = length (lines l.source.text) - l.source.read
