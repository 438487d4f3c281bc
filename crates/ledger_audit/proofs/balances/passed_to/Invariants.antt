use Rattle.std.proofs.Common.{◌≡◌, ◌*◌, ◌≤◌, take}
use Rattle.std.specs.List.{sum_by}
use Rattle.ledger_audit.proofs.Columns.{passed_by}
use Rattle.ledger_audit.proofs.balances.passed_to.Given as goal

-- what the entries so far passed on
abbrev pub invariant-loop-entry : goal.invariant-loop-entry
invariant-loop-entry l = record {
  so_far : l.passed ≡ sum_by (passed_by l.system l.taken) (take l.entry-index l.column);
  small : l.passed ≤ l.entry-index * 18446744073709551616000000000000;
}
