use Rattle.grids.proofs.Illuminances.{received_light_limited}
use Rattle.grids.proofs.direct.received_light.Goals as goal

pub returns-clause-limited : goal.returns-clause-limited
returns-clause-limited c =
    let le = received_light_limited c.args.intensity c.args.height c.args.squared c.isqrt-root.result c.requires.intensity c.requires.over c.requires.squared (rw c.from-3.ensures at c.isqrt-root.ensures.next_square) in
    rw (c.from.ensures, c.from-2.ensures, c.from-4.ensures, c.from-5.ensures) le
