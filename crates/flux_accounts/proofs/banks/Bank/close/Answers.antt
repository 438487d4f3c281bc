use Rattle.std.proofs.Common.{ap, subst, ◌∙◌}
use Rattle.flux_system.specs.System.{FluxSystem}
use Rattle.flux_ledger.specs.declared.ledger.Ledger.{Ledger}
use Rattle.flux_ledger.specs.Balance.{IsBalanced, IsPaid}
use Rattle.flux_accounts.specs.Banks.{BankFacts, DeskFacts}
use Rattle.flux_accounts.proofs.Closing.{closed_ledger}
use Rattle.flux_accounts.proofs.banks.Bank.close.Goals as goal

pub returns-clause-balanced : goal.returns-clause-balanced
returns-clause-balanced c =
    let b = c.self.inside in
    let d = c.desk.inside in
    let out = ap (λ (f : DeskFacts). f.history.account.out) c.desk.view_is ∙ c.requires.out in
    let l : Ledger = record { direct = b.direct; taken = d.taken; residual = c.in_ok-residual.residual; err = d.err; parts = d.parts; wins = d.wins } in
    let both = closed_ledger b.table.shared.key.system.value b.table.shared.key.direct.value b.direct _ c.self.invariant d.pass.id d.pass.me.0 _ _ c.close_with-closed.ensures.values.2 d.taken d.err d.parts d.wins d.out c.desk.invariant.0 out c.in_ok-residual.residual c.len.result c.len.ensures c.in_ok-residual.ensures in
    subst (λ (q : FluxSystem). IsBalanced q l) (ap (λ (f : BankFacts). f.system) c.self.view_is) both.0

pub returns-clause-paid : goal.returns-clause-paid
returns-clause-paid c =
    let b = c.self.inside in
    let d = c.desk.inside in
    let out = ap (λ (f : DeskFacts). f.history.account.out) c.desk.view_is ∙ c.requires.out in
    let l : Ledger = record { direct = b.direct; taken = d.taken; residual = c.in_ok-residual.residual; err = d.err; parts = d.parts; wins = d.wins } in
    let both = closed_ledger b.table.shared.key.system.value b.table.shared.key.direct.value b.direct _ c.self.invariant d.pass.id d.pass.me.0 _ _ c.close_with-closed.ensures.values.2 d.taken d.err d.parts d.wins d.out c.desk.invariant.0 out c.in_ok-residual.residual c.len.result c.len.ensures c.in_ok-residual.ensures in
    subst (λ (q : FluxSystem). IsPaid q l) (ap (λ (f : BankFacts). f.system) c.self.view_is) both.1
