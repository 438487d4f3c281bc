use Rattle.std.proofs.Common.{arith, take, ◌++◌, length-append}
use Rattle.std.proofs.lemmas.List.{length-take}
use Rattle.std.proofs.KnownBytes.{Consumes-trans}
use Rattle.lux.proofs.file_shelves.load.Goals as goal

pub returns-then-is_err-clause-taken : goal.returns-then-is_err-clause-taken
returns-then-is_err-clause-taken g c =
    let bytes = c.loop-bytes.bytes.items in
    let more = take c.in-Ok-read_front.count c.read_front.new.buffer in
    record {
      taken = bytes ++ more;
      few = omega (arith, length-append bytes more, length-take c.in-Ok-read_front.count c.read_front.new.buffer, c.in-Ok-read_front.ensures.few);
      consumed = Consumes-trans _ _ _ bytes more c.loop-bytes.invariant.1 c.in-Ok-read_front.ensures.taken;
    }
