use Rattle.std.proofs.Common.{ℕ, ◌<◌, List, get_or, ap, ◌∙◌, rules}
use Rattle.flux_system.specs.System.{patches}
use Rattle.flux_accounts.proofs.Steps.{gives}
use Rattle.flux_accounts.proofs.banks.Bank.give.Goals as goal

pub fetch_add-found-requires : goal.fetch_add-found-requires
fetch_add-found-requires c =
    let inside : c.args.target < patches c.self.inside.table.shared.key.system.value = search rules in
    let amount = c.amount-amount.ensures.amount ∙ ap (λ (xs : List ℕ). get_or xs c.args.target 0) c.seat.invariant.0.amounts in
    (search rules, search rules, gives _ _ _ _ _ c.args.target _ inside amount c.seat.invariant.0.actor)
