use Rattle.std.proofs.Common.{arith}
use Rattle.std.proofs.lemmas.List.{ext_get_or}
use Rattle.shot_core.proofs.Booking.{rest-share-none}
use Rattle.shot_core.proofs.brightest.follow.Goals as goal

pub returns : goal.returns
returns c =
    let i = c.loop-entry.invariant in
    let long = i.long in
    ext_get_or 0 _ _ i.long (λ j h. i.right j (omega arith) (rest-share-none c.args.row.now c.loop-entry.entry-index j (omega arith)))
