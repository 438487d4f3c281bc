use Rattle.std.proofs.Common.{sym}
use Rattle.duties.proofs.Orders.{judged_is}
use Rattle.worked_ledgers.proofs.audits.finding_within.Goals as goal

-- the limits hold, since a bound came
pub audit-requires-clause-limits : goal.audit-requires-clause-limits
audit-requires-clause-limits c = (judged_is _ _ _ (sym c.in-Ok.ensures.answer)).1
