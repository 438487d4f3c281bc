use Rattle.std.proofs.Common.{refl, ap, ◌∙◌, arith}
use Rattle.std.proofs.lemmas.Bool.{leb-true}
use Rattle.shot_core.specs.declared.events.Event.TheVariants.{Hire}
use Rattle.shot_core.specs.World.{ShootingWorld, moved}
use Rattle.shot_core.proofs.Orders.{legal_in}
use Rattle.shot_core.proofs.Memory.{world, order, views-length, hire_world, hired_is_world}
use Rattle.shot_core.proofs.Fitting.{few_out}
use Rattle.shot_core.proofs.worlds.World.hire.Goals as goal

pub overflow_add-self : goal.overflow_add-self
overflow_add-self c =
    let m = c.self.inside in
    let ok = c.self.invariant in
    let few = ok.few in
    let seats = ok.seats in
    let out = few_out (world m ok) (order m ok) in
    let long = views-length m.system.value m.direct.value m.words m.desk m.hired m.actors.items ok.few in
    omega arith

pub invariant_of-self : goal.invariant_of-self
invariant_of-self c =
    let m = c.self.inside in
    let ok = c.self.invariant in
    let legal = legal_in Hire _ _ c.self.view_is c.requires in
    let long = views-length m.system.value m.direct.value m.words m.desk m.hired m.actors.items ok.few in
    let free = leb-true _ _ legal in
    hired_is_world m ok (omega arith) _ refl legal

pub returns : goal.returns
returns c =
    let m = c.self.inside in
    let ok = c.self.invariant in
    let legal = legal_in Hire _ _ c.self.view_is c.requires in
    let long = views-length m.system.value m.direct.value m.words m.desk m.hired m.actors.items ok.few in
    let free = leb-true _ _ legal in
    hire_world m ok (omega arith) _ refl ∙ ap (λ (w : ShootingWorld). moved w Hire) c.self.view_is
