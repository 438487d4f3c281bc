use Rattle.laws.proofs.Ranges.{lists_grow}
use Rattle.flux_ledger.specs.IntervalLines.{interval_line}
use Rattle.flux_ledger.proofs.intervals.push_intervals.Goals as goal

pub loop-patch-preserved : goal.loop-patch-preserved
loop-patch-preserved c =
    lists_grow (interval_line c.args.ends.now) c.args.text.now.items c.loop-patch.patch _ _ c.loop-patch.invariant c.in_ok-push_interval.ensures
