use Rattle.std.proofs.Common.{◌≡◌, map}
use Rattle.std.specs.List.{range_with_len}
use Rattle.enclosure.specs.Interval.{interval_of}
use Rattle.enclosure.proofs.ends.all.Given as goal

-- the intervals of the patches so far
abbrev pub invariant-loop-j : goal.invariant-loop-j
invariant-loop-j l = l.intervals.items ≡ map (interval_of l.system l.ledger) (range_with_len 0 l.j)
