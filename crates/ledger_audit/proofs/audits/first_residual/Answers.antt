use Rattle.std.proofs.Common.{sym, ◌∙◌, arith}
use Rattle.duties.proofs.Orders.{each_none, each_more, each_fails}
use Rattle.flux_system.specs.System.{patches}
use Rattle.ledger_audit.specs.Findings.{residual_duty}
use Rattle.ledger_audit.proofs.Tests.{residual_fails, residual_holds}
use Rattle.ledger_audit.proofs.audits.first_residual.Goals as goal

pub loop-patch-init : goal.loop-patch-init
loop-patch-init c = each_none _

pub returns-then-value-threshold : goal.returns-then-value-threshold
returns-then-value-threshold c =
    sym (each_fails (residual_duty c.args.system.now c.args.ledger.now) (patches c.args.system.now) c.loop-patch.patch _ (omega arith) c.loop-patch.invariant
    (residual_fails c.args.system.now c.args.ledger.now c.loop-patch.patch _ _ c.get-value.ensures c.threshold.ensures (omega arith)))

pub loop-patch-preserved : goal.loop-patch-preserved
loop-patch-preserved c =
    each_more (residual_duty c.args.system.now c.args.ledger.now) c.loop-patch.patch c.loop-patch.invariant
    ∙ residual_holds c.args.system.now c.args.ledger.now c.loop-patch.patch _ _ c.get-value.ensures c.threshold.ensures (omega arith)
