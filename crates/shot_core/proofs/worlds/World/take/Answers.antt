use Rattle.std.proofs.Common.{sym, ap, ◌∙◌}
use Rattle.shot_core.specs.declared.events.Event.TheVariants.{Take}
use Rattle.shot_core.specs.World.{ShootingWorld, moved}
use Rattle.shot_core.proofs.Orders.{legal_in}
use Rattle.shot_core.proofs.Moving.{take_hand_length, take_taken_length, take_amounts, take_taken, take_wins, take_moved, take_is_world}
use Rattle.shot_core.proofs.worlds.World.take.Goals as goal

pub take-requires-clause-hand : goal.take-requires-clause-hand
take-requires-clause-hand c = take_hand_length c.self.inside c.self.invariant c.args.actor c.index_mut.result.now (sym c.index_mut.ensures.value) c.args.patch (legal_in (Take c.args.actor c.args.patch) _ _ c.self.view_is c.requires.legal) c.args.system.now (c.requires.system ∙ sym (ap (λ (w : ShootingWorld). w.system) c.self.view_is)) c.get-t.result c.get-t.ensures

pub take-requires-clause-lengths : goal.take-requires-clause-lengths
take-requires-clause-lengths c = take_taken_length c.self.inside c.self.invariant c.args.actor c.index_mut.result.now (sym c.index_mut.ensures.value) c.args.patch (legal_in (Take c.args.actor c.args.patch) _ _ c.self.view_is c.requires.legal) c.args.system.now (c.requires.system ∙ sym (ap (λ (w : ShootingWorld). w.system) c.self.view_is)) c.get-t.result c.get-t.ensures

pub take-requires-clause-fits : goal.take-requires-clause-fits
take-requires-clause-fits c = take_amounts c.self.inside c.self.invariant c.args.actor c.index_mut.result.now (sym c.index_mut.ensures.value) c.args.patch (legal_in (Take c.args.actor c.args.patch) _ _ c.self.view_is c.requires.legal) c.args.system.now (c.requires.system ∙ sym (ap (λ (w : ShootingWorld). w.system) c.self.view_is)) c.get-t.result c.get-t.ensures

pub take-requires-clause-taken : goal.take-requires-clause-taken
take-requires-clause-taken c = take_taken c.self.inside c.self.invariant c.args.actor c.index_mut.result.now (sym c.index_mut.ensures.value) c.args.patch (legal_in (Take c.args.actor c.args.patch) _ _ c.self.view_is c.requires.legal) c.args.system.now (c.requires.system ∙ sym (ap (λ (w : ShootingWorld). w.system) c.self.view_is)) c.get-t.result c.get-t.ensures

pub take-requires-clause-wins : goal.take-requires-clause-wins
take-requires-clause-wins c = take_wins c.self.inside c.self.invariant c.args.actor c.index_mut.result.now (sym c.index_mut.ensures.value) c.args.patch (legal_in (Take c.args.actor c.args.patch) _ _ c.self.view_is c.requires.legal) c.args.system.now (c.requires.system ∙ sym (ap (λ (w : ShootingWorld). w.system) c.self.view_is)) c.get-t.result c.get-t.ensures

pub invariant_of-self : goal.invariant_of-self
invariant_of-self c = take_is_world c.self.inside c.self.invariant c.args.actor c.index_mut.result.now (sym c.index_mut.ensures.value) c.args.patch (legal_in (Take c.args.actor c.args.patch) _ _ c.self.view_is c.requires.legal) c.args.system.now (c.requires.system ∙ sym (ap (λ (w : ShootingWorld). w.system) c.self.view_is)) c.get-t.result c.get-t.ensures _ _ c.set.ensures c.take.ensures.view c.take.ensures.retired

pub returns : goal.returns
returns c = take_moved c.self.inside c.self.invariant c.args.actor c.index_mut.result.now (sym c.index_mut.ensures.value) c.args.patch (legal_in (Take c.args.actor c.args.patch) _ _ c.self.view_is c.requires.legal) c.args.system.now (c.requires.system ∙ sym (ap (λ (w : ShootingWorld). w.system) c.self.view_is)) c.get-t.result c.get-t.ensures _ _ c.set.ensures c.take.ensures.view c.take.ensures.retired ∙ ap (λ (w : ShootingWorld). moved w (Take c.args.actor c.args.patch)) c.self.view_is
