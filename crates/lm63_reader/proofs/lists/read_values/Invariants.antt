use Rattle.std.proofs.Common.{◌≡◌, ◌+◌, ◌≤◌, ◌^◌, None, length}
use Rattle.std.specs.Prelude.{All}
use Rattle.duties.specs.Duties.{each}
use Rattle.lux_lines.specs.Walks.{all_tokens}
use Rattle.lm63_reader.specs.Intensities.{intensities, value_duty}
use Rattle.lm63_reader.proofs.lists.read_values.Given as goal

abbrev pub invariant-loop-at : goal.invariant-loop-at
invariant-loop-at l = record {
  all : all_tokens l.source ≡ all_tokens l.fn.source;
  read : l.source.read ≡ l.fn.source.read + l.at;
  items : l.values.items ≡ intensities l.factor (all_tokens l.fn.source) l.fn.source.read l.at;
  len : length l.values.items ≡ l.at;
  limited : All (λ value. value ≤ 10 ^ 15) l.values.items;
  met : each l.at (value_duty l.factor (all_tokens l.fn.source) l.fn.source.read) ≡ None;
}
