use Rattle.std.proofs.Common.{◌≡◌, ◌+◌, ◌≤◌, None, length}
use Rattle.std.specs.Prelude.{All}
use Rattle.std.specs.List.Sorted.{IsStrictlyIncreasing}
use Rattle.duties.specs.Duties.{each}
use Rattle.lux_lines.specs.Walks.{all_tokens}
use Rattle.lm63_reader.specs.Angles.{angles, angle_duty, least_angle}
use Rattle.lm63_reader.proofs.lists.read_angles.Given as goal

abbrev pub invariant-loop-at : goal.invariant-loop-at
invariant-loop-at l = record {
  all : all_tokens l.source ≡ all_tokens l.fn.source;
  read : l.source.read ≡ l.fn.source.read + l.at;
  least : l.least ≡ least_angle (all_tokens l.fn.source) l.fn.source.read l.at;
  low : l.least ≤ l.most + 1;
  items : l.angles.items ≡ angles (all_tokens l.fn.source) l.fn.source.read l.at;
  len : length l.angles.items ≡ l.at;
  below : All (λ angle. angle + 1 ≤ l.least) l.angles.items;
  rising : IsStrictlyIncreasing l.angles.items;
  limited : All (λ angle. angle ≤ l.most) l.angles.items;
  met : each l.at (angle_duty l.list l.most (all_tokens l.fn.source) l.fn.source.read) ≡ None;
}
