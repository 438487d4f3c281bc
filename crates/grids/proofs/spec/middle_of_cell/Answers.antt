use Rattle.grids.proofs.Points.{middle_of_cell-le}
use Rattle.grids.proofs.spec.middle_of_cell.Goals as goal

pub returns-clause-within : goal.returns-clause-within
returns-clause-within c = middle_of_cell-le c.args.from c.args.to c.args.cells c.args.k c.requires.stretch c.requires.inside
