use Rattle.std.proofs.Common.{◌≤◌, ◌-◌, length, take}
use Rattle.lux_io.specs.Sinks.{Wrote}
use Rattle.lux_plans.proofs.endings.put_all.Given as goal

-- what stands before the start was written
abbrev pub invariant-loop-start : goal.invariant-loop-start
invariant-loop-start g l = record {
  in_range : l.start ≤ length l.bytes;
  wrote : Wrote (g.K.Sink.state l.initial.out) (g.K.Sink.state l.out) (take l.start l.bytes);
}

abbrev pub decreases-loop-start : goal.decreases-loop-start
decreases-loop-start g l = length l.bytes - l.start
