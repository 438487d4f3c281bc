use Rattle.std.proofs.Common.{◌≡◌, ◌*◌, ◌≤◌, ◌^◌, take, map}
use Rattle.std.specs.Prelude.{All}
use Rattle.room_patches.specs.Patches.{patches}
use Rattle.direct_flux.specs.DirectFlux.{flux_on}
use Rattle.direct_flux.proofs.fluxes.all_flux.Given as goal

abbrev pub invariant-loop-patch : goal.invariant-loop-patch
invariant-loop-patch l = record {
  found : l.flux.items ≡ map (flux_on l.fn.webs l.fn.fixtures) (take l.patch-index (patches l.fn.room));
  limited : All (λ amount. amount ≤ 256 * (4 * 10 ^ 28)) l.flux.items;
}
