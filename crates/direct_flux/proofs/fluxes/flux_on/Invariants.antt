use Rattle.std.proofs.Common.{◌≡◌, ◌*◌, ◌≤◌, ◌^◌, take}
use Rattle.direct_flux.specs.DirectFlux.{flux_on}
use Rattle.direct_flux.proofs.fluxes.flux_on.Given as goal

abbrev pub invariant-loop-fixture : goal.invariant-loop-fixture
invariant-loop-fixture l = record {
  added : l.flux ≡ flux_on l.fn.webs (take l.fixture-index l.fn.fixtures) l.fn.patch;
  limited : l.flux ≤ l.fixture-index * (4 * 10 ^ 28);
}
