use Rattle.std.proofs.Common.{◌≡◌, true, ◌&&◌, sym, ap, ◌∙◌}
use Rattle.shot_core.specs.declared.views.View.{View}
use Rattle.shot_core.specs.Hands.{is_empty}
use Rattle.shot_core.specs.World.{ShootingWorld, view_of, is_hired, is_legal}
use Rattle.shot_core.proofs.Memory.{is_view}
use Rattle.shot_core.proofs.worlds.World.allows.Goals as goal

pub returns-then-is_hired-3 : goal.returns-then-is_hired-3
returns-then-is_hired-3 c =
    let w : ShootingWorld = c.args.self.now in
    let hired : is_hired w c.in-Retire.actor ≡ true = sym c.is_hired-in-Retire.ensures ∙ c.if-is_hired-3.true in
    let seen = is_view c.self.inside c.self.invariant c.in-Retire.actor c.index.result.now (sym c.index.ensures) (ap (λ (u : ShootingWorld). is_hired u c.in-Retire.actor) c.self.view_is ∙ hired) in
    c.is_empty.ensures
    ∙ (ap (λ (v : View). is_empty v.hand) (sym seen)
    ∙ (ap (λ (u : ShootingWorld). is_empty (view_of u c.in-Retire.actor).hand) c.self.view_is
    ∙ (ap (λ b. b && is_empty (view_of w c.in-Retire.actor).hand) (sym hired) ∙ ap (is_legal w) (sym c.in-Retire.is))))
