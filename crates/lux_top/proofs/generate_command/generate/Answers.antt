use Rattle.lux_plans.proofs.Caused.{follows_of}
use Rattle.lux_top.specs.GenerateCommand.{generate_plan}
use Rattle.lux_top.proofs.Plain.{plain_generate}
use Rattle.lux_top.proofs.GenerateRows.{generate_row}
use Rattle.lux_top.proofs.generate_command.generate.Goals as goal

pub returns-clause-follows : goal.returns-clause-follows
returns-clause-follows g c = λ shelf. follows_of (generate_plan c.args.number) _ _ _ _ (plain_generate c.args.number) (c.decide-decided.ensures shelf) (c.conclude.ensures shelf shelf)

pub returns-clause-row : goal.returns-clause-row
returns-clause-row g c = λ shelf.
    generate_row c.args.number _ _ _ (follows_of (generate_plan c.args.number) _ _ _ _ (plain_generate c.args.number) (c.decide-decided.ensures shelf) (c.conclude.ensures shelf shelf)).runs
