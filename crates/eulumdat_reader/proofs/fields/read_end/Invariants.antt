use Rattle.std.proofs.Common.{◌≡◌, ◌-◌, length, map, drop}
use Rattle.duties.specs.Duties.{first}
use Rattle.eulumdat_reader.specs.Rows.{all_lines, blank_row}
use Rattle.eulumdat_reader.proofs.fields.read_end.Given as goal

abbrev pub invariant-loop-line : goal.invariant-loop-line
invariant-loop-line l = record {
  text : l.source.text ≡ l.fn.source.text;
  met : first (map blank_row (drop l.source.read (all_lines l.fn.source))) ≡ first (map blank_row (drop l.fn.source.read (all_lines l.fn.source)));
}

abbrev pub decreases-loop-line : goal.decreases-loop-line
decreases-loop-line l = length (all_lines l.source) - l.source.read
