use Rattle.grids.proofs.Enclosing.{encloses}
use Rattle.grids.proofs.grid.Grid.point_interval.Goals as goal

pub returns-clause-encloses : goal.returns-clause-encloses
returns-clause-encloses c =
    encloses c.args.room.now c.args.self.now c.args.direct.now c.args.bounds.now c.args.g c.patches.result.now c.point.result _ _ _ c.patches.ensures.value c.point.ensures.value
    c.reflected_ends-low.ensures.low c.reflected_ends-low.ensures.high c.div_ceil.ensures
