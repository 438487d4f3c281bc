use Rattle.std.proofs.Common.{◌≡◌, ℕ, ◌+◌, Bool, true, false, cond, List, take, get_or, sym, ap, ◌∙◌, arith}
use Rattle.std.proofs.lemmas.List.{length-take-le, take_more}
use Rattle.shot_core.specs.declared.events.Event.{Event}
use Rattle.shot_core.specs.declared.events.Event.TheVariants.{Hire}
use Rattle.shot_core.specs.declared.events.Stepped.{Stepped}
use Rattle.shot_core.specs.declared.events.Stepped.TheVariants.{Moved, Stuck}
use Rattle.shot_core.specs.World.{ShootingWorld, is_legal, after, after_all, number_moved}
use Rattle.shot_core.proofs.Orders.{all_in_order, conserved_in, wins_in, words_in, after_one_more, moved_one_more, few_moved, same_system}
use Rattle.shot_core.proofs.worlds.World.run.Goals.{in-Moved, in-Stuck}
use Rattle.shot_core.proofs.worlds.World.run.Goals as goal

pub step-requires : goal.step-requires
step-requires c = c.requires ∙ sym (ap (λ (w : ShootingWorld). w.system) c.loop-event.invariant.world ∙ same_system (take c.loop-event.event-index c.args.events.now) c.args.self.now)

pub overflow_add-moved : goal.overflow_add-moved
overflow_add-moved c =
    let i : ℕ = c.loop-event.event-index in
    let inside = c.loop-event-test.true in
    let few = few_moved (take i c.args.events.now) c.args.self.now in
    let long = length-take-le i c.args.events.now (omega arith) in
    let moved = c.loop-event.invariant.moved in
    omega arith

-- 1 for an event that moved a world
abbrev ones : Stepped → ℕ
ones Moved = 1
ones Stuck = 0

ones_are : (r : Stepped) (b : Bool) → r ≡ cond b Moved Stuck → ones r ≡ cond b 1 0
ones_are r true is = ap ones is
ones_are r false is = ap ones is

pub loop-event-preserved : goal.loop-event-preserved
loop-event-preserved c =
    let old : ShootingWorld = c.args.self.now in
    let events : List Event = c.args.events.now in
    let i : ℕ = c.loop-event.event-index in
    let event : Event = get_or events i Hire in
    let before = c.loop-event.invariant in
    let more = take_more events i Hire c.loop-event-test.true in
    let answer = ones_are c.step.result (is_legal c.loop-event.self event) c.step.ensures.answer ∙ ap (λ (w : ShootingWorld). cond (is_legal w event) 1 0) before.world in
    let next = ap (number_moved old) more ∙ moved_one_more (take i events) old event in
    let counted : c.match-step.moved ≡ c.loop-event.moved + ones c.step.result =
    elim c.match-step.branch [
      | in-Moved w ↦ (let one = ap ones w.in-Moved.is in let is = w.moved-is in omega arith)
      | in-Stuck w ↦ (let none = ap ones w.in-Stuck.is in let is = w.moved-is in omega arith)
    ] in
    let was = before.moved in
    record {
      world = c.step.ensures.world ∙ (ap (λ (w : ShootingWorld). after w event) before.world ∙ sym (ap (after_all old) more ∙ after_one_more (take i events) old event));
      moved = omega arith;
    }

pub returns-clause-accounts : goal.returns-clause-accounts
returns-clause-accounts c k = (all_in_order (take k c.args.events.now) c.args.self.now c.keep_order.ensures).accounts

pub returns-clause-conserved : goal.returns-clause-conserved
returns-clause-conserved c k = conserved_in (after_all c.args.self.now (take k c.args.events.now)) (all_in_order (take k c.args.events.now) c.args.self.now c.keep_order.ensures)

pub returns-clause-wins : goal.returns-clause-wins
returns-clause-wins c k = wins_in (after_all c.args.self.now (take k c.args.events.now)) (all_in_order (take k c.args.events.now) c.args.self.now c.keep_order.ensures)

pub returns-clause-words : goal.returns-clause-words
returns-clause-words c k = words_in (after_all c.args.self.now (take k c.args.events.now)) (all_in_order (take k c.args.events.now) c.args.self.now c.keep_order.ensures)
