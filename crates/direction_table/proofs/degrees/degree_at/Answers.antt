use Rattle.std.proofs.Common.{ap}
use Rattle.direction_table.proofs.Table.{get_or-DEGREES}
use Rattle.direction_table.proofs.degrees.degree_at.Goals as goal

pub returns-clause-sine : goal.returns-clause-sine
returns-clause-sine c = ap (λ entry. entry.0) (get_or-DEGREES c.args.degrees _ c.requires)

pub returns-clause-cosine : goal.returns-clause-cosine
returns-clause-cosine c = ap (λ entry. entry.1) (get_or-DEGREES c.args.degrees _ c.requires)
