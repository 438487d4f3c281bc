use Rattle.std.proofs.Common.{◌+◌, set, sym, ap, ◌∙◌, arith}
use Rattle.shot_core.specs.declared.events.Event.TheVariants.{Give}
use Rattle.shot_core.specs.World.{ShootingWorld, moved}
use Rattle.shot_core.proofs.Orders.{legal_in}
use Rattle.shot_core.proofs.Moving.{give_hand_length, give_given_length, give_given, give_word, give_moved, give_is_world}
use Rattle.shot_core.proofs.worlds.World.give.Goals as goal

pub give-amount-requires-clause-hand : goal.give-amount-requires-clause-hand
give-amount-requires-clause-hand c = give_hand_length c.self.inside c.self.invariant c.args.actor c.index_mut.result.now (sym c.index_mut.ensures.value) c.args.target (legal_in (Give c.args.actor c.args.target) _ _ c.self.view_is c.requires)

pub give-amount-requires-clause-given : goal.give-amount-requires-clause-given
give-amount-requires-clause-given c = give_given_length c.self.inside c.self.invariant c.args.actor c.index_mut.result.now (sym c.index_mut.ensures.value) c.args.target (legal_in (Give c.args.actor c.args.target) _ _ c.self.view_is c.requires)

pub give-amount-requires-clause-fits : goal.give-amount-requires-clause-fits
give-amount-requires-clause-fits c = give_given c.self.inside c.self.invariant c.args.actor c.index_mut.result.now (sym c.index_mut.ensures.value) c.args.target (legal_in (Give c.args.actor c.args.target) _ _ c.self.view_is c.requires)

pub overflow_add-word : goal.overflow_add-word
overflow_add-word c =
    let fits = give_word c.self.inside c.self.invariant c.args.actor c.index_mut.result.now (sym c.index_mut.ensures.value) c.args.target (legal_in (Give c.args.actor c.args.target) _ _ c.self.view_is c.requires) in
    let word = c.get.ensures in
    let amount = c.give-amount.ensures.amount in
    omega arith

pub invariant_of-self : goal.invariant_of-self
invariant_of-self c = give_is_world c.self.inside c.self.invariant c.args.actor c.index_mut.result.now (sym c.index_mut.ensures.value) c.args.target (legal_in (Give c.args.actor c.args.target) _ _ c.self.view_is c.requires) _ _ (c.set.ensures ∙ (λ i. set c.self.inside.words c.args.target (c.get.ensures i + c.give-amount.ensures.amount i))) (c.give-amount.ensures.view c.self.inside.system.value c.self.inside.direct.value) c.give-amount.ensures.retired

pub returns : goal.returns
returns c = give_moved c.self.inside c.self.invariant c.args.actor c.index_mut.result.now (sym c.index_mut.ensures.value) c.args.target (legal_in (Give c.args.actor c.args.target) _ _ c.self.view_is c.requires) _ _ (c.set.ensures ∙ (λ i. set c.self.inside.words c.args.target (c.get.ensures i + c.give-amount.ensures.amount i))) (c.give-amount.ensures.view c.self.inside.system.value c.self.inside.direct.value) c.give-amount.ensures.retired ∙ ap (λ (w : ShootingWorld). moved w (Give c.args.actor c.args.target)) c.self.view_is
