use Rattle.std.proofs.Common.{◌≡◌, ◌*◌, ◌≤◌, ◌^◌, take}
use Rattle.grids.specs.GridPoint.{direct_at}
use Rattle.grids.proofs.direct.direct_at.Given as goal

abbrev pub invariant-loop-fixture : goal.invariant-loop-fixture
invariant-loop-fixture l = record {
  added : l.light ≡ direct_at l.webs (take l.fixture-index l.fixtures) l.point;
  limited : l.light ≤ l.fixture-index * (4 * 10 ^ 24);
}
