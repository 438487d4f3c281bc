-- How a world keeps its accounts in memory, and what every world is. No public clause cites this.
use Rattle.std.specs.Prelude.{◌≡◌, ℕ, ◌<◌, ◌≤◌, List, ◌∷◌, map, take, length, slice_index_or}
use Rattle.flux_system.specs.System.{FluxSystem}
use Rattle.flux_system.specs.declared.TheConstants.{MOST_SEATS}
use Rattle.shot_core.specs.declared.accounts.Account.{Account}
use Rattle.shot_core.specs.declared.accounts.DeskAccount.{DeskAccount}
use Rattle.shot_core.specs.declared.roles.Role.TheVariants.{Desk, Actor}
use Rattle.shot_core.specs.declared.views.View.{View}
use Rattle.shot_core.specs.Views.{new_view}
use Rattle.shot_core.specs.Accounts.{AccountsHold}
use Rattle.shot_core.specs.World.{ShootingWorld, desk_of, AccountsHoldIn}
use Rattle.shot_core.specs.AccountViews.{desk_view, account_view}

-- the views of the desk's account and of the actors that were hired
abbrev pub views_of : FluxSystem → List ℕ → DeskAccount → ℕ → List Account → List View
views_of s direct desk hired actors = desk_view s direct desk ∷ map (account_view s direct) (take hired actors)

-- the accounts of a world in memory: those of actors that are still to be hired have nothing
pub record IsWorld (s : FluxSystem) (direct words : List ℕ) (desk : DeskAccount) (hired : ℕ) (actors : List Account) : Type 0 where
  pub accounts : AccountsHold s direct words (views_of s direct desk hired actors)
  pub few : hired ≤ length actors
  pub seats : length actors ≤ MOST_SEATS
  pub fresh : (k : ℕ) (d : Account) → hired ≤ k → k < length actors → account_view s direct (slice_index_or actors k d) ≡ new_view s direct Actor

-- the accounts of a world hold, and the desk's view is the first
pub record IsInOrder (w : ShootingWorld) : Type 0 where
  pub accounts : AccountsHoldIn w
  pub first : 0 < length w.views
  pub at_desk : (desk_of w).role ≡ Desk
