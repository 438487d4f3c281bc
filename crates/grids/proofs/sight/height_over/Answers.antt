use Rattle.std.proofs.Common.{◌≡◌, arith}
use Rattle.std.proofs.lemmas.Int.{ints}
use Rattle.room_patches.specs.Patches.{in_front, distance_before}
use Rattle.grids.specs.GridPoint.{height_over}
use Rattle.grids.proofs.Heights.{height_squared_le}
use Rattle.grids.proofs.sight.height_over.Goals as goal

pub returns-clause-no_farther : goal.returns-clause-no_farther
unfolding in_front distance_before
returns-clause-no_farther c =
    let value : c.unsigned_abs.result ≡ height_over c.args.point c.args.place = grind (arith, ints) in
    height_squared_le c.args.point c.args.place _ c.requires.point value
