use Rattle.std.proofs.Common.{◌≡◌, ◌++◌}
use Rattle.std.specs.List.{flat_map, range_with_len}
use Rattle.flux_ledger.specs.IntervalLines.{interval_line}
use Rattle.flux_ledger.proofs.intervals.push_intervals.Given as goal

-- the text before, and the lines of the patches so far
abbrev pub invariant-loop-patch : goal.invariant-loop-patch
invariant-loop-patch l = l.text.items ≡ l.initial.text.items ++ flat_map (interval_line l.ends) (range_with_len 0 l.patch)
