use Rattle.std.proofs.Common.{◌≡◌, ◌*◌, ◌≤◌, ◌^◌, take, sum}
use Rattle.direct_flux.proofs.fluxes.total.Given as goal

abbrev pub invariant-loop-amount : goal.invariant-loop-amount
invariant-loop-amount l = record {
  added : l.total ≡ sum (take l.amount-index l.fn.amounts);
  limited : l.total ≤ l.amount-index * (256 * (4 * 10 ^ 28));
}
