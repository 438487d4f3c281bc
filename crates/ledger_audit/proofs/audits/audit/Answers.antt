use Rattle.std.proofs.Common.{◌≡◌, IfSome, false, unwrap_or, sym, ap, subst, ◌∙◌}
use Rattle.duties.specs.Duties.{Duty}
use Rattle.ledger_audit.specs.declared.findings.Finding.{Finding}
use Rattle.ledger_audit.specs.declared.findings.Finding.TheVariants.{Balanced}
use Rattle.ledger_audit.specs.Findings.{IsAccountOf, is_of_bounds}
use Rattle.ledger_audit.proofs.Deciding.{account_where_met, met_where_account, tests_tell, met_where_balanced, never_of_bounds, done_where_account}
use Rattle.ledger_audit.proofs.audits.audit.Goals.{After-unwrap_or}
use Rattle.ledger_audit.proofs.audits.audit.Goals as goal

-- what the tests tell is neither of bounds nor nothing
told : (c : After-unwrap_or) → IfSome c.first_failure.result (λ f. is_of_bounds f ≡ false)
told c = subst (λ (duty : Duty Finding). IfSome duty (λ f. is_of_bounds f ≡ false)) (sym c.first_failure.ensures.failure) (tests_tell c.args.system.now c.args.direct.now c.args.ledger.now)

account : (c : After-unwrap_or) → c.unwrap_or.result ≡ Balanced → IsAccountOf c.args.system.now c.args.direct.now c.args.ledger.now
account c is =
    account_where_met c.args.system.now c.args.direct.now c.args.ledger.now c.requires.direct c.requires.lengths
    (sym c.first_failure.ensures.failure ∙ met_where_balanced _ (told c) (sym c.unwrap_or.ensures ∙ is))

pub returns-clause-balanced : goal.returns-clause-balanced
returns-clause-balanced c = account c

pub returns-clause-exactly : goal.returns-clause-exactly
returns-clause-exactly c = λ is.
    c.unwrap_or.ensures
    ∙ ap (λ (duty : Duty Finding). unwrap_or duty Balanced)
    (c.first_failure.ensures.failure ∙ met_where_account c.args.system.now c.args.direct.now c.args.ledger.now c.requires.direct c.requires.lengths c.first_failure.ensures.system is)

pub returns-clause-done : goal.returns-clause-done
returns-clause-done c = λ is. done_where_account c.args.system.now c.args.direct.now c.args.ledger.now c.requires.limits (account c is)

pub returns-clause-never_bounds : goal.returns-clause-never_bounds
returns-clause-never_bounds c = λ patch low high is. never_of_bounds _ (told c) patch low high (sym c.unwrap_or.ensures ∙ is)
