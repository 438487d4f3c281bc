use Rattle.std.proofs.Common.{◌≡◌, None}
use Rattle.duties.specs.Duties.{each}
use Rattle.ledger_audit.specs.Findings.{residual_duty}
use Rattle.ledger_audit.proofs.audits.first_residual.Given as goal

-- the tests so far are passed
abbrev pub invariant-loop-patch : goal.invariant-loop-patch
invariant-loop-patch l = each l.patch (residual_duty l.system l.ledger) ≡ None
