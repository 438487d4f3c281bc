use Rattle.std.proofs.Common.{◌≡◌, ℕ, ◌<◌, List, length, get_or}
use Rattle.flux_system.specs.System.{FluxSystem, patches}
use Rattle.shot_core.specs.declared.accounts.Account.{Account}
use Rattle.shot_core.specs.declared.roles.Role.TheVariants.{Actor}
use Rattle.shot_core.specs.Views.{new_view}
use Rattle.shot_core.specs.AccountViews.{account_view}
use Rattle.shot_core.proofs.worlds.World.start.Given as goal

-- as many accounts of nothing yet as turns
abbrev pub invariant-loop : goal.invariant-loop
invariant-loop l = record {
  long : length l.actors.items ≡ l.counter;
  new : (k : ℕ) (d : Account) (s : FluxSystem) (direct : List ℕ) → patches s ≡ l.n → k < length l.actors.items → account_view s direct (get_or l.actors.items k d) ≡ new_view s direct Actor;
}
