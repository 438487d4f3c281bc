use Rattle.std.proofs.Common.{ℕ, List, sum, ap, arith}
use Rattle.lux_top.proofs.Limited.{few_nanolumens}
use Rattle.lux_top.proofs.settlements.settle.Goals as goal

pub serial-requires-clause-flux : goal.serial-requires-clause-flux
serial-requires-clause-flux c = few_nanolumens c.args.system.now c.args.flux.now c.requires.limited

pub write_ledger-requires : goal.write_ledger-requires
write_ledger-requires c =
    let few = few_nanolumens c.args.system.now c.args.flux.now c.requires.limited in
    let same = ap (λ (xs : List ℕ). sum xs) c.in-Ok.ensures.direct in
    record { balanced = c.in-Ok.ensures.balanced; finished = c.in-Ok.ensures.finished; limited = omega arith }
