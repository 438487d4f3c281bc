use Rattle.std.proofs.Common.{sym, ◌∙◌}
use Rattle.duties.proofs.Orders.{this_met, this_fails, last_decides}
use Rattle.ledger_audit.specs.Findings.{audit_duties}
use Rattle.ledger_audit.proofs.Tests.{size_fails, size_holds}
use Rattle.ledger_audit.proofs.audits.first_failure.Goals as goal

pub returns-then-len-patches-clause-failure : goal.returns-then-len-patches-clause-failure
unfolding audit_duties
returns-then-len-patches-clause-failure c =
    sym (this_fails _ _ _ (size_fails c.args.system.now c.args.ledger.now _ _ c.len-patches.ensures.value c.len-then-len-patches.ensures (λ e. c.if-len-patches.true (c.len.ensures ∙ (sym c.len-then-len-patches.ensures ∙ e)))))

pub returns-in-Some-clause-failure : goal.returns-in-Some-clause-failure
unfolding audit_duties
returns-in-Some-clause-failure c =
    let size = size_holds c.args.system.now c.args.ledger.now _ _ c.len-patches.ensures.value c.len.ensures c.if-len-patches.false in
    sym (this_met _ _ size ∙ this_fails _ _ _ (sym c.in-Some.ensures))

pub returns-in-Some-first_err-clause-failure : goal.returns-in-Some-first_err-clause-failure
unfolding audit_duties
returns-in-Some-first_err-clause-failure c =
    let size = size_holds c.args.system.now c.args.ledger.now _ _ c.len-patches.ensures.value c.len.ensures c.if-len-patches.false in
    sym (this_met _ _ size ∙ (this_met _ _ (sym c.in_default.ensures) ∙ this_fails _ _ _ (sym c.in-Some-first_err.ensures)))

pub returns-in-Some-first_residual-clause-failure : goal.returns-in-Some-first_residual-clause-failure
unfolding audit_duties
returns-in-Some-first_residual-clause-failure c =
    let size = size_holds c.args.system.now c.args.ledger.now _ _ c.len-patches.ensures.value c.len.ensures c.if-len-patches.false in
    sym (this_met _ _ size ∙ (this_met _ _ (sym c.in_default.ensures) ∙ (this_met _ _ (sym c.in_default-first_err.ensures) ∙ this_fails _ _ _ (sym c.in-Some-first_residual.ensures))))

pub returns-in-Some-first_unbalanced-clause-failure : goal.returns-in-Some-first_unbalanced-clause-failure
unfolding audit_duties
returns-in-Some-first_unbalanced-clause-failure c =
    let size = size_holds c.args.system.now c.args.ledger.now _ _ c.len-patches.ensures.value c.len.ensures c.if-len-patches.false in
    sym (this_met _ _ size ∙ (this_met _ _ (sym c.in_default.ensures) ∙ (this_met _ _ (sym c.in_default-first_err.ensures) ∙ (this_met _ _ (sym c.in_default-first_residual.ensures) ∙ this_fails _ _ _ (sym c.in-Some-first_unbalanced.ensures)))))

pub returns-clause-failure : goal.returns-clause-failure
unfolding audit_duties
returns-clause-failure c =
    let size = size_holds c.args.system.now c.args.ledger.now _ _ c.len-patches.ensures.value c.len.ensures c.if-len-patches.false in
    c.too_many_wins.ensures
    ∙ sym (this_met _ _ size
    ∙ (this_met _ _ (sym c.in_default.ensures) ∙ (this_met _ _ (sym c.in_default-first_err.ensures) ∙ (this_met _ _ (sym c.in_default-first_residual.ensures) ∙ (this_met _ _ (sym c.in_default-first_unbalanced.ensures) ∙ last_decides _)))))
