use Rattle.std.proofs.Common.{◌≡◌, None}
use Rattle.duties.specs.Duties.{each}
use Rattle.ledger_audit.specs.Findings.{direct_duty}
use Rattle.ledger_audit.proofs.audits.first_direct.Given as goal

-- the tests so far are passed
abbrev pub invariant-loop-patch : goal.invariant-loop-patch
invariant-loop-patch l = each l.patch (direct_duty l.direct l.ledger) ≡ None
