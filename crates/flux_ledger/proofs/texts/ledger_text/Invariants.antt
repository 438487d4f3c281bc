use Rattle.std.proofs.Common.{◌≡◌, ◌++◌}
use Rattle.std.specs.List.{flat_map, range_with_len}
use Rattle.flux_ledger.specs.LedgerText.{head_lines, patch_line}
use Rattle.flux_ledger.proofs.texts.ledger_text.Given as goal

-- the head, and the lines of the patches so far
abbrev pub invariant-loop-patch : goal.invariant-loop-patch
invariant-loop-patch l = l.text.items ≡ head_lines l.ledger ++ flat_map (patch_line l.ledger) (range_with_len 0 l.patch)
