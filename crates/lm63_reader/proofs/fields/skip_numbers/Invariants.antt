use Rattle.std.proofs.Common.{◌≡◌, ◌+◌, None}
use Rattle.duties.specs.Duties.{each}
use Rattle.lux_lines.specs.Walks.{all_tokens}
use Rattle.lm63_reader.specs.Fields.{number_duty}
use Rattle.lm63_reader.proofs.fields.skip_numbers.Given as goal

abbrev pub invariant-loop-i : goal.invariant-loop-i
invariant-loop-i l = record {
  all : all_tokens l.source ≡ all_tokens l.fn.source;
  read : l.source.read ≡ l.fn.source.read + l._i;
  met : each l._i (λ i. number_duty (all_tokens l.fn.source) (l.fn.source.read + i)) ≡ None;
}
