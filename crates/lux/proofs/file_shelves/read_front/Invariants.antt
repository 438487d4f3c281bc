use Rattle.std.proofs.Common.{◌≡◌, ◌+◌, ◌≤◌, false}
use Rattle.std.specs.Io.KnownBytes.{Keeps}
use Rattle.lux.proofs.file_shelves.read_front.Given as goal

-- reads that were stopped took nothing, none was the last, and there was one for each turn of the loop
abbrev pub invariant-loop : goal.invariant-loop
invariant-loop g l =
    Keeps (g.R.Read.remaining l.initial.reader.reader) (g.R.Read.remaining l.reader.reader)
    × (l.reader.taken ≡ l.initial.reader.taken)
    × (l.reader.ended ≡ false)
    × (l.reader.reads ≤ l.initial.reader.reads + l.counter)
