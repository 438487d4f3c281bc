use Rattle.std.proofs.Common.{refl}
use Rattle.visibility.proofs.Words.{times}
use Rattle.visibility.proofs.stretch.Stretch.begins_before_end.Goals as goal

pub returns : goal.returns
returns c =
    let part = c.args.self in
    let other = c.args.other in
    rw (times part.low other.whole c.from.result c.requires.own.low c.requires.other.whole c.from.ensures, times other.high part.whole c.from-2.result c.requires.other.high c.requires.own.whole c.from-2.ensures) refl
