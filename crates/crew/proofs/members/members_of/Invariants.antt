use Rattle.std.proofs.Common.{◌≡◌, ◌++◌, All, length, map}
use Rattle.std.specs.List.{range_with_len}
use Rattle.std.specs.Vec.Iter.{into_iter_items}
use Rattle.crew.specs.Crews.{shooter_at_start}
use Rattle.crew.proofs.Hired.{new_shooter, IsUnused}
use Rattle.crew.proofs.members.members_of.Given as goal

-- the shooters that are there, and those that the seats that are left become
abbrev pub invariant-loop-seat : goal.invariant-loop-seat
invariant-loop-seat g l = record {
  all : map (λ m. record { seat = m.shooter.seat; remembered = m.shooter.remembered; cursor = m.shooter.cursor }) l.all.items ++ map (new_shooter l.bank) (into_iter_items l.seat-iterator.a) ≡ map (shooter_at_start l.bank) (range_with_len 0 (length l.fn.pickers.items));
  unused : All (IsUnused l.bank) (into_iter_items l.seat-iterator.a);
  as_many : length (into_iter_items l.seat-iterator.a) ≡ length (into_iter_items l.seat-iterator.b);
}
