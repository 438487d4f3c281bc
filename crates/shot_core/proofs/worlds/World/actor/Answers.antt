use Rattle.std.proofs.Common.{sym, ap, ◌∙◌}
use Rattle.shot_core.specs.World.{ShootingWorld, view_of}
use Rattle.shot_core.specs.AccountViews.{account_view}
use Rattle.shot_core.proofs.Memory.{actor_view}
use Rattle.shot_core.proofs.worlds.World.actor.Goals as goal

pub returns-then-actor-self-clause-view : goal.returns-then-actor-self-clause-view
returns-then-actor-self-clause-view c =
    let m = c.self.inside in
    let a = c.index.result.now in
    (λ i. account_view (sym c.self.view_is i).system (sym c.self.view_is i).direct a)
    ∙ (ap (account_view m.system.value m.direct.value) c.index.ensures
    ∙ (sym (actor_view m.system.value m.direct.value m.words m.desk m.hired m.actors.items c.self.invariant.few c.args.actor a c.if-actor-self.true) ∙ ap (λ (w : ShootingWorld). view_of w c.args.actor) c.self.view_is))
