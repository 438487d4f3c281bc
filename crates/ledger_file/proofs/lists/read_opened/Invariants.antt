use Rattle.std.proofs.Common.{◌≡◌, ◌+◌, ◌≤◌, None, map}
use Rattle.std.specs.List.{range_with_len}
use Rattle.duties.specs.Duties.{each}
use Rattle.ledger_file.specs.LedgerFiles.{interval_duty, ends_in}
use Rattle.ledger_file.proofs.lists.read_opened.Given as goal

abbrev pub invariant-loop-patch : goal.invariant-loop-patch
invariant-loop-patch l = record {
  some : 1 ≤ l.patch;
  text : l.source.text ≡ l.fn.source.text;
  read : l.source.read ≡ 4 + l.count + l.patch;
  ends : l.intervals.items ≡ map (ends_in l.fn.source.text l.count) (range_with_len 0 l.patch);
  met : each l.patch (interval_duty l.fn.source.text l.count) ≡ None;
}
