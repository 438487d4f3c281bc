use Rattle.std.proofs.Common.{◌≡◌, ◌+◌, ◌≤◌, ◌^◌, None, length}
use Rattle.std.specs.Prelude.{All}
use Rattle.duties.specs.Duties.{each}
use Rattle.eulumdat_reader.specs.Rows.{all_lines}
use Rattle.eulumdat_reader.specs.Intensities.{intensities, value_duty}
use Rattle.eulumdat_reader.proofs.lists.read_values.Given as goal

abbrev pub invariant-loop-at : goal.invariant-loop-at
invariant-loop-at l = record {
  text : l.source.text ≡ l.fn.source.text;
  read : l.source.read ≡ l.fn.source.read + l.at;
  items : l.values.items ≡ intensities l.scale (all_lines l.fn.source) (l.fn.source.read + 1) l.at;
  len : length l.values.items ≡ l.at;
  limited : All (λ value. value ≤ 10 ^ 15) l.values.items;
  met : each l.at (value_duty l.scale (all_lines l.fn.source) (l.fn.source.read + 1)) ≡ None;
}
