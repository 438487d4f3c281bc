use Rattle.std.proofs.Common.{refl, sym, ◌∙◌, arith}
use Rattle.duties.proofs.Orders.{each_none, each_more, each_fails}
use Rattle.flux_system.specs.System.{patches}
use Rattle.ledger_audit.specs.Findings.{direct_duty}
use Rattle.ledger_audit.proofs.Tests.{direct_fails, direct_holds}
use Rattle.ledger_audit.proofs.audits.first_direct.Goals as goal

pub loop-patch-init : goal.loop-patch-init
loop-patch-init c = each_none _

pub returns-then-left-right : goal.returns-then-left-right
returns-then-left-right c =
    let duty = direct_duty c.args.direct.now c.args.ledger.now in
    sym (each_fails duty (patches c.args.system.now) c.loop-patch.patch _ (omega arith) c.loop-patch.invariant (direct_fails c.args.system.now c.args.ledger.now c.args.direct.now c.loop-patch.patch _ _ refl c.get-right.ensures c.if-left-right.true))

pub loop-patch-preserved : goal.loop-patch-preserved
loop-patch-preserved c =
    each_more (direct_duty c.args.direct.now c.args.ledger.now) c.loop-patch.patch c.loop-patch.invariant
    ∙ direct_holds c.args.system.now c.args.ledger.now c.args.direct.now c.loop-patch.patch _ _ refl c.get-right.ensures c.if-left-right.false
