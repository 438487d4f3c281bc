use Rattle.std.proofs.Common.{refl, sym, ap, ◌∙◌}
use Rattle.shot_core.specs.declared.events.Event.TheVariants.{Retire}
use Rattle.shot_core.specs.World.{ShootingWorld, moved}
use Rattle.shot_core.proofs.Orders.{legal_in}
use Rattle.shot_core.proofs.Moving.{retire_desk_lengths, retire_lengths, retire_taken, retire_given, retire_err, retire_parts, retire_wins, retire_out, retire_moved, retire_is_world}
use Rattle.shot_core.proofs.worlds.World.retire.Goals as goal

pub add-requires-clause-lengths : goal.add-requires-clause-lengths
add-requires-clause-lengths c = retire_desk_lengths c.self.inside c.self.invariant c.args.actor c.index_mut-account.result.now (sym c.index_mut-account.ensures.value) (legal_in (Retire c.args.actor) _ _ c.self.view_is c.requires)

pub add-requires-clause-others : goal.add-requires-clause-others
add-requires-clause-others c = retire_lengths c.self.inside c.self.invariant c.args.actor c.index_mut-account.result.now (sym c.index_mut-account.ensures.value) (legal_in (Retire c.args.actor) _ _ c.self.view_is c.requires)

pub add-requires-clause-taken : goal.add-requires-clause-taken
add-requires-clause-taken c = retire_taken c.self.inside c.self.invariant c.args.actor c.index_mut-account.result.now (sym c.index_mut-account.ensures.value) (legal_in (Retire c.args.actor) _ _ c.self.view_is c.requires)

pub add-requires-clause-given : goal.add-requires-clause-given
add-requires-clause-given c = retire_given c.self.inside c.self.invariant c.args.actor c.index_mut-account.result.now (sym c.index_mut-account.ensures.value) (legal_in (Retire c.args.actor) _ _ c.self.view_is c.requires)

pub add-requires-clause-err : goal.add-requires-clause-err
add-requires-clause-err c = retire_err c.self.inside c.self.invariant c.args.actor c.index_mut-account.result.now (sym c.index_mut-account.ensures.value) (legal_in (Retire c.args.actor) _ _ c.self.view_is c.requires)

pub add-requires-clause-parts : goal.add-requires-clause-parts
add-requires-clause-parts c = retire_parts c.self.inside c.self.invariant c.args.actor c.index_mut-account.result.now (sym c.index_mut-account.ensures.value) (legal_in (Retire c.args.actor) _ _ c.self.view_is c.requires)

pub add-requires-clause-wins : goal.add-requires-clause-wins
add-requires-clause-wins c = retire_wins c.self.inside c.self.invariant c.args.actor c.index_mut-account.result.now (sym c.index_mut-account.ensures.value) (legal_in (Retire c.args.actor) _ _ c.self.view_is c.requires)

pub add-requires-clause-out : goal.add-requires-clause-out
add-requires-clause-out c = retire_out c.self.inside c.self.invariant c.args.actor c.index_mut-account.result.now (sym c.index_mut-account.ensures.value) (legal_in (Retire c.args.actor) _ _ c.self.view_is c.requires)

pub invariant_of-self : goal.invariant_of-self
invariant_of-self c = retire_is_world c.self.inside c.self.invariant c.args.actor c.index_mut-account.result.now (sym c.index_mut-account.ensures.value) (legal_in (Retire c.args.actor) _ _ c.self.view_is c.requires) _ _ c.add.ensures refl

pub returns : goal.returns
returns c = retire_moved c.self.inside c.self.invariant c.args.actor c.index_mut-account.result.now (sym c.index_mut-account.ensures.value) (legal_in (Retire c.args.actor) _ _ c.self.view_is c.requires) _ _ c.add.ensures refl ∙ ap (λ (w : ShootingWorld). moved w (Retire c.args.actor)) c.self.view_is
