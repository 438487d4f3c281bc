-- The states of adapters that tell no bytes.
use Rattle.std.specs.Prelude.{ℕ, None}
use Rattle.lux_io.specs.Sinks.{SinkState}

-- a sink that tells only how many pieces failed
abbrev pub untold_sink : ℕ → SinkState
untold_sink faults = record { written = None; faults = faults }
