use Rattle.std.proofs.Common.{◌≡◌, ◌+◌, None}
use Rattle.duties.specs.Duties.{each}
use Rattle.eulumdat_reader.specs.Rows.{all_lines, presence_duty}
use Rattle.eulumdat_reader.proofs.fields.skip_rows.Given as goal

abbrev pub invariant-loop-i : goal.invariant-loop-i
invariant-loop-i l = record {
  text : l.source.text ≡ l.fn.source.text;
  read : l.source.read ≡ l.fn.source.read + l._i;
  met : each l._i (λ i. presence_duty (all_lines l.fn.source) (l.fn.source.read + 1 + i)) ≡ None;
}
