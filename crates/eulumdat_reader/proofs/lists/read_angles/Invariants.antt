use Rattle.std.proofs.Common.{◌≡◌, ◌+◌, ◌≤◌, None, length}
use Rattle.std.specs.Prelude.{All}
use Rattle.std.specs.List.Sorted.{IsStrictlyIncreasing}
use Rattle.duties.specs.Duties.{each}
use Rattle.eulumdat_reader.specs.Rows.{all_lines}
use Rattle.eulumdat_reader.specs.Angles.{angles, angle_duty}
use Rattle.eulumdat_reader.proofs.Growing.{unread_before}
use Rattle.eulumdat_reader.proofs.lists.read_angles.Given as goal

abbrev pub invariant-loop-at : goal.invariant-loop-at
invariant-loop-at l = record {
  text : l.source.text ≡ l.fn.source.text;
  read : l.source.read ≡ l.fn.source.read + l.at;
  items : l.angles.items ≡ angles l.unread (all_lines l.fn.source) (l.fn.source.read + 1) l.at;
  len : length l.angles.items + unread_before l.unread l.at ≡ l.at;
  rising : IsStrictlyIncreasing l.angles.items;
  limited : All (λ angle. angle ≤ l.most) l.angles.items;
  met : each l.at (angle_duty l.list l.most l.unread (all_lines l.fn.source) (l.fn.source.read + 1)) ≡ None;
}
