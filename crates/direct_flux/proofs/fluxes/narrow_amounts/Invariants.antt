use Rattle.std.proofs.Common.{◌≡◌, take}
use Rattle.direct_flux.proofs.fluxes.narrow_amounts.Given as goal

abbrev pub invariant-loop-amount : goal.invariant-loop-amount
invariant-loop-amount l = l.narrow.items ≡ take l.amount-index l.fn.amounts
