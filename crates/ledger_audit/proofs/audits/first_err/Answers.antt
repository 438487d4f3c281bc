use Rattle.std.proofs.Common.{◌*◌, sym, ◌∙◌, arith}
use Rattle.duties.proofs.Orders.{each_none, each_more, each_fails}
use Rattle.flux_system.specs.System.{patches}
use Rattle.ledger_audit.specs.Findings.{err_duty}
use Rattle.ledger_audit.proofs.Tests.{err_fails, err_holds}
use Rattle.ledger_audit.proofs.audits.first_err.Goals as goal

pub loop-patch-init : goal.loop-patch-init
loop-patch-init c = each_none _

pub returns-then-from-limit : goal.returns-then-from-limit
returns-then-from-limit c =
    sym (each_fails (err_duty c.args.ledger.now) (patches c.args.system.now) c.loop-patch.patch _ (omega arith) c.loop-patch.invariant
    (err_fails c.args.system.now c.args.ledger.now c.loop-patch.patch _ _ c.get-value.ensures (λ k. c.from.ensures k * c.from-2.ensures k) (omega arith)))

pub loop-patch-preserved : goal.loop-patch-preserved
loop-patch-preserved c =
    each_more (err_duty c.args.ledger.now) c.loop-patch.patch c.loop-patch.invariant
    ∙ err_holds c.args.system.now c.args.ledger.now c.loop-patch.patch _ _ c.get-value.ensures (λ k. c.from.ensures k * c.from-2.ensures k) (omega arith)
