use Rattle.std.proofs.Common.{sym, subst}
use Rattle.flux_ledger.specs.declared.ledger.Ledger.{Ledger}
use Rattle.flux_ledger.specs.Balance.{IsBalanced}
use Rattle.shot_core.proofs.Untouched.{untouched_balanced}
use Rattle.shot_core.proofs.settling.serial.Goals as goal

pub settle-requires-clause-balanced : goal.settle-requires-clause-balanced
settle-requires-clause-balanced c =
    subst (λ (l : Ledger). IsBalanced c.args.system.now l) (sym c.in_ok-ledger.ensures) (untouched_balanced c.args.system.now c.args.direct.now c.requires.lengths)
