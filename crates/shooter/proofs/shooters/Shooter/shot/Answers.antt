use Rattle.std.proofs.Common.{sym, ◌∙◌}
use Rattle.shooter.proofs.Shooting.{whole_shot}
use Rattle.shooter.proofs.shooters.Shooter.shot.Goals as goal

pub returns-clause-shot : goal.returns-clause-shot
returns-clause-shot g c =
    whole_shot c.args.system.now c.args.patch c.args.self.now.cursor c.args.self.now.seat c.args.self.now.remembered c.take-answer.result c.take-answer.new.seat c.take-answer.new.remembered c.give_all.new.seat c.give_all.new.remembered
    c.take-answer.ensures.steps c.take-answer.ensures.remembered c.take-answer.ensures.number (c.take-answer.ensures.of.table ∙ sym c.requires.seat.table) c.give_all.ensures.gives c.give_all.ensures.empty
