use Rattle.std.proofs.Common.{sym, ap, ◌∙◌}
use Rattle.shot_core.specs.World.{ShootingWorld, is_hired}
use Rattle.shot_core.proofs.Memory.{is_hired-there}
use Rattle.shot_core.proofs.worlds.World.is_hired.Goals as goal

pub returns-then-actor-self : goal.returns-then-actor-self
returns-then-actor-self c =
    let m = c.self.inside in
    is_hired-there m.system.value m.direct.value m.words m.desk m.hired m.actors.items c.self.invariant.few c.args.actor c.index.result.now c.if-actor-self.true (sym c.index.ensures)
    ∙ ap (λ (w : ShootingWorld). is_hired w c.args.actor) c.self.view_is
