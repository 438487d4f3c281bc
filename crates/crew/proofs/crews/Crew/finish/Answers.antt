use Rattle.std.proofs.Common.{◌<◌, ℕ, List, slice_index, arith, ap, subst, ◌∙◌}
use Rattle.flux_system.specs.System.{FluxSystem, patches}
use Rattle.flux_accounts.specs.Banks.{DeskFacts}
use Rattle.flux_ledger.specs.declared.ledger.Ledger.{Ledger}
use Rattle.shot_core.specs.Views.{taken_at}
use Rattle.crew.proofs.Settled.{after_settling}
use Rattle.crew.proofs.Sums.{nothing_at}
use Rattle.crew.proofs.crews.Crew.finish.Goals as goal

pub returns-clause-wins : goal.returns-clause-wins
returns-clause-wins g c =
    let closed : Ledger = c.in_ok-ledger.ledger in
    let more = after_settling c.args.system.now closed in
    let settled = ap {B = ℕ} (λ (l : Ledger). l.wins) c.settle.ensures.settled in
    let closed_wins = c.in_ok-ledger.ensures.counts.1 in
    let added = c.retire_all.ensures.wins in
    let first = ap {B = ℕ} (λ (d : DeskFacts). d.history.account.wins) c.args.self.opened in
    let grown = more.wins in
    omega arith

pub returns-clause-taken : goal.returns-clause-taken
returns-clause-taken g c = λ j inside.
    let closed : Ledger = c.in_ok-ledger.ledger in
    let more = after_settling c.args.system.now closed in
    let settled = ap {B = ℕ} (λ (l : Ledger). slice_index l.taken j) c.settle.ensures.settled in
    let bank = c.args.self.bank in
    let closed_taken = ap {B = ℕ} (λ (xs : List ℕ). slice_index xs j) c.in_ok-ledger.ensures.desk.0 in
    let added = c.retire_all.ensures.taken j (subst (λ (s : FluxSystem). j < patches s) c.requires.system inside) in
    let first = ap {B = ℕ} (λ (d : DeskFacts). taken_at j d.history.account) c.args.self.opened ∙ nothing_at (patches bank.system) j in
    let grown = more.taken j in
    omega arith
