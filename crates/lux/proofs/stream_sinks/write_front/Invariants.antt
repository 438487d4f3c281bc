use Rattle.std.specs.Io.KnownBytes.{Keeps}
use Rattle.lux.proofs.stream_sinks.write_front.Given as goal

-- writes that were stopped wrote nothing
abbrev pub invariant-loop : goal.invariant-loop
invariant-loop g l = Keeps (g.W.Write.contents l.initial.stream) (g.W.Write.contents l.stream)
