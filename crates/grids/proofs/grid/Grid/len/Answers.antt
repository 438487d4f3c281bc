use Rattle.std.proofs.Common.{◌≡◌, length, ap, ◌∙◌, arith}
use Rattle.grids.specs.Grids.{count}
use Rattle.grids.proofs.Points.{length-points}
use Rattle.grids.proofs.grid.Grid.len.Goals.{After-len}
use Rattle.grids.proofs.grid.Grid.len.Goals as goal

counted : (c : After-len) → c.len.result ≡ count c.self.inside.spec
counted c =
    let listed = ap length c.self.invariant.all in
    let long = length-points c.self.inside.spec in
    let ok = c.self.inside.points.ok in
    omega arith

pub returns-clause-value : goal.returns-clause-value
returns-clause-value c = counted c ∙ ap count c.self.view_is

pub returns-clause-few : goal.returns-clause-few
returns-clause-few c = let same = counted c in let few = c.self.invariant.valid.laid.few in omega arith
