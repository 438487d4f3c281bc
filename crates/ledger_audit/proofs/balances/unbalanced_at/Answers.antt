use Rattle.std.proofs.Common.{sym}
use Rattle.ledger_audit.proofs.Tests.{balance_fails, balance_holds}
use Rattle.ledger_audit.proofs.balances.unbalanced_at.Goals as goal

pub returns-then-left-right : goal.returns-then-left-right
returns-then-left-right c = sym (balance_fails c.args.system.now c.args.ledger.now c.args.patch _ _ c.sides-left.ensures.left c.sides-left.ensures.right c.if-left-right.true)

pub returns : goal.returns
returns c = sym (balance_holds c.args.system.now c.args.ledger.now c.args.patch _ _ c.sides-left.ensures.left c.sides-left.ensures.right c.if-left-right.false)
