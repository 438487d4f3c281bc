use Rattle.std.proofs.Common.{◌≡◌, drop}
use Rattle.duties.specs.Duties.{first}
use Rattle.boxes.specs.Validity.{boxes_duties}
use Rattle.boxes.proofs.checks.boxes_fault.Given as goal

abbrev pub invariant-loop-at : goal.invariant-loop-at
invariant-loop-at l = first (boxes_duties l.room 0 l.boxes) ≡ first (boxes_duties l.room l.at (drop l.at l.boxes))
