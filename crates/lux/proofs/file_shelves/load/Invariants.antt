use Rattle.std.proofs.Common.{◌≡◌, ◌+◌, ◌*◌, ◌-◌, ◌≤◌, false, vec_len}
use Rattle.std.specs.Io.KnownBytes.{Consumes}
use Rattle.lux.proofs.file_shelves.load.Given as goal

-- the bytes so far were taken from the reader, no more than one above the limit, by at most so many reads of which none was the last
abbrev pub invariant-loop-bytes : goal.invariant-loop-bytes
invariant-loop-bytes g l =
    (vec_len l.bytes ≤ l.limit + 1)
    × Consumes (g.R.Read.remaining l.initial.reader.reader) (g.R.Read.remaining l.reader.reader) l.bytes.items
    × (l.reader.taken ≡ vec_len l.bytes)
    × (l.reader.reads ≤ 64 * vec_len l.bytes)
    × (l.reader.ended ≡ false)

abbrev pub decreases-loop-bytes : goal.decreases-loop-bytes
decreases-loop-bytes g l = (l.limit + 1) - vec_len l.bytes
