use Rattle.std.proofs.Common.{◌≡◌, true, sym, subst, ◌∙◌}
use Rattle.shot_core.specs.declared.events.Event.{Event}
use Rattle.shot_core.specs.World.{ShootingWorld, is_legal, moved}
use Rattle.shot_core.specs.Layouts.{IsInOrder}
use Rattle.shot_core.proofs.Orders.{moved_in_order, conserved_in, wins_in, words_in}
use Rattle.shot_core.proofs.worlds.World.step.Goals as goal

pub returns-then-not-allows-clause-conserved : goal.returns-then-not-allows-clause-conserved
returns-then-not-allows-clause-conserved c = conserved_in c.args.self.now c.keep_order.ensures

pub returns-then-not-allows-clause-wins : goal.returns-then-not-allows-clause-wins
returns-then-not-allows-clause-wins c = wins_in c.args.self.now c.keep_order.ensures

pub returns-then-not-allows-clause-words : goal.returns-then-not-allows-clause-words
returns-then-not-allows-clause-words c = words_in c.args.self.now c.keep_order.ensures

-- a world that a legal event led to is in order
acted : (w u : ShootingWorld) (event : Event) → IsInOrder w → is_legal w event ≡ true → u ≡ moved w event → IsInOrder u
acted w u event order legal is = subst IsInOrder (sym is) (moved_in_order w order event legal)

pub returns-clause-accounts : goal.returns-clause-accounts
returns-clause-accounts c = (acted c.args.self.now c.act.new.self c.args.event c.keep_order.ensures (sym c.allows.ensures ∙ c.if-not-allows.false) c.act.ensures).accounts

pub returns-clause-conserved : goal.returns-clause-conserved
returns-clause-conserved c = conserved_in c.act.new.self (acted c.args.self.now c.act.new.self c.args.event c.keep_order.ensures (sym c.allows.ensures ∙ c.if-not-allows.false) c.act.ensures)

pub returns-clause-wins : goal.returns-clause-wins
returns-clause-wins c = wins_in c.act.new.self (acted c.args.self.now c.act.new.self c.args.event c.keep_order.ensures (sym c.allows.ensures ∙ c.if-not-allows.false) c.act.ensures)

pub returns-clause-words : goal.returns-clause-words
returns-clause-words c = words_in c.act.new.self (acted c.args.self.now c.act.new.self c.args.event c.keep_order.ensures (sym c.allows.ensures ∙ c.if-not-allows.false) c.act.ensures)
