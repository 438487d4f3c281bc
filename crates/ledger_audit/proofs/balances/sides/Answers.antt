use Rattle.std.proofs.Common.{ℕ, List, ◌+◌, ◌*◌, ap, ◌∙◌}
use Rattle.flux_ledger.specs.Balance.{passed_to}
use Rattle.ledger_audit.proofs.balances.sides.Goals as goal

pub returns-clause-left : goal.returns-clause-left
returns-clause-left c =
    let taken = c.from.ensures ∙ c.get.ensures in
    let residual = c.from-2.ensures ∙ c.get-2.ensures in
    let err = c.from-4.ensures ∙ c.get-3.ensures in
    λ k. c.from-3.ensures k * (taken k + residual k) + err k

pub returns-clause-right : goal.returns-clause-right
returns-clause-right c =
    let direct = c.from-6.ensures ∙ c.get-4.ensures in
    let passed = c.passed_to.ensures.value ∙ ap (λ (taken : List ℕ). passed_to c.args.system.now taken c.args.patch) c.as_slice.ensures in
    λ k. c.from-5.ensures k * direct k + passed k
