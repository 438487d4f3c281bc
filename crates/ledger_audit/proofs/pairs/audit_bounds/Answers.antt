use Rattle.std.proofs.Common.{◌≡◌, ◌≢◌, IfSome, true, unwrap_or, sym, ap, subst, ◌∙◌}
use Rattle.duties.specs.Duties.{Duty}
use Rattle.ledger_audit.specs.declared.findings.Finding.{Finding}
use Rattle.ledger_audit.specs.declared.findings.Finding.TheVariants.{Balanced}
use Rattle.ledger_audit.specs.Findings.{is_of_bounds}
use Rattle.ledger_audit.proofs.Deciding.{pairs_tell, intervals_where_met, met_where_intervals, balanced_pairs, always_of_bounds}
use Rattle.ledger_audit.proofs.pairs.audit_bounds.Goals.{After-unwrap_or}
use Rattle.ledger_audit.proofs.pairs.audit_bounds.Goals as goal

-- what the tests tell is of bounds
told : (c : After-unwrap_or) → IfSome c.first_pair.result (λ f. (is_of_bounds f ≡ true) × (f ≢ Balanced))
told c = subst (λ (duty : Duty Finding). IfSome duty (λ f. (is_of_bounds f ≡ true) × (f ≢ Balanced))) (sym c.first_pair.ensures) (pairs_tell c.args.system.now c.args.ledger.now c.args.given.now)

pub returns-clause-exactly : goal.returns-clause-exactly
returns-clause-exactly c = (
  λ is. intervals_where_met c.args.system.now c.args.ledger.now c.args.given.now c.requires.pairs (sym c.first_pair.ensures ∙ balanced_pairs _ (told c) (sym c.unwrap_or.ensures ∙ is)),
  λ are. c.unwrap_or.ensures ∙ ap (λ (duty : Duty Finding). unwrap_or duty Balanced) (c.first_pair.ensures ∙ met_where_intervals c.args.system.now c.args.ledger.now c.args.given.now are),
)

pub returns-clause-no_other : goal.returns-clause-no_other
returns-clause-no_other c = ap is_of_bounds c.unwrap_or.ensures ∙ always_of_bounds _ (told c)
