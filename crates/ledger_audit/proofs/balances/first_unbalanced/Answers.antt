use Rattle.std.proofs.Common.{sym, ◌∙◌, arith}
use Rattle.duties.proofs.Orders.{each_none, each_more, each_fails}
use Rattle.flux_system.specs.System.{patches}
use Rattle.ledger_audit.specs.Findings.{balance_duty}
use Rattle.ledger_audit.proofs.balances.first_unbalanced.Goals as goal

pub loop-patch-init : goal.loop-patch-init
loop-patch-init c = each_none _

pub returns-in-Some : goal.returns-in-Some
returns-in-Some c =
    sym (each_fails (balance_duty c.args.system.now c.args.ledger.now) (patches c.args.system.now) c.loop-patch.patch _ (omega arith) c.loop-patch.invariant (sym c.in-Some.ensures))

pub loop-patch-preserved : goal.loop-patch-preserved
loop-patch-preserved c =
    each_more (balance_duty c.args.system.now c.args.ledger.now) c.loop-patch.patch c.loop-patch.invariant ∙ sym c.in_default.ensures
