use Rattle.std.proofs.Common.{◌≡◌, ◌++◌}
use Rattle.std.specs.List.{flat_map, range_with_len}
use Rattle.lux_report.specs.Report.{patch_line}
use Rattle.lux_report.proofs.texts.push_patches.Given as goal

-- the text before, and the lines of the patches so far
abbrev pub invariant-loop-patch : goal.invariant-loop-patch
invariant-loop-patch l = l.text.items ≡ l.initial.text.items ++ flat_map (patch_line l.ledger l.facts) (range_with_len 0 l.patch)
