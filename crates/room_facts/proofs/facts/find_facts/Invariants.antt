use Rattle.std.proofs.Common.{◌≡◌, ℕ, ◌<◌, Some, map, take}
use Rattle.std.specs.Prelude.{slice_get}
use Rattle.compliance.specs.declared.checks.CheckSpec.{CheckSpec}
use Rattle.lux_report.specs.Facts.{lists_of}
use Rattle.room_facts.specs.RoomFacts.{check_intervals, answer_by}
use Rattle.room_facts.proofs.Truths.{IsTrueBy}
use Rattle.room_facts.proofs.facts.find_facts.Given as goal

abbrev pub invariant-loop-i : goal.invariant-loop-i
invariant-loop-i l = record {
  points : lists_of l.points.items ≡ map (check_intervals l.lit_room l.ledger) (take l.i l.checks);
  judged : l.judged.items ≡ map (λ check. answer_by check (check_intervals l.lit_room l.ledger check)) (take l.i l.checks);
  hold : (k : ℕ) (check : CheckSpec) → slice_get l.checks k ≡ Some check → k < l.i → IsTrueBy l.lit_room l.ledger check;
}
