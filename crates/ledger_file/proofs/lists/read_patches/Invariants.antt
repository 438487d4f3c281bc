use Rattle.std.proofs.Common.{◌≡◌, ◌+◌, None}
use Rattle.duties.specs.Duties.{each}
use Rattle.ledger_file.specs.LedgerFiles.{patch_duty, patch_numbers}
use Rattle.ledger_file.proofs.lists.read_patches.Given as goal

abbrev pub invariant-loop-patch : goal.invariant-loop-patch
invariant-loop-patch l = record {
  text : l.source.text ≡ l.fn.source.text;
  read : l.source.read ≡ 4 + l.patch;
  direct : l.direct.items ≡ patch_numbers l.fn.source.text l.patch 1;
  taken : l.taken.items ≡ patch_numbers l.fn.source.text l.patch 2;
  residual : l.residual.items ≡ patch_numbers l.fn.source.text l.patch 3;
  err : l.err.items ≡ patch_numbers l.fn.source.text l.patch 4;
  met : each l.patch (patch_duty l.fn.source.text) ≡ None;
}
