use Rattle.std.proofs.Common.{◌≡◌, None}
use Rattle.duties.specs.Duties.{each}
use Rattle.ledger_audit.specs.Findings.{bounds_duty}
use Rattle.ledger_audit.proofs.pairs.first_pair.Given as goal

-- the tests so far are passed
abbrev pub invariant-loop-patch : goal.invariant-loop-patch
invariant-loop-patch l = each l.patch (bounds_duty l.system l.ledger l.given) ≡ None
