-- The views of the accounts that a world has in memory.
use Rattle.std.specs.Prelude.{ℕ, if◌then◌else◌, List}
use Rattle.flux_system.specs.System.{FluxSystem}
use Rattle.shot_core.specs.declared.accounts.Account.{Account}
use Rattle.shot_core.specs.declared.accounts.DeskAccount.{DeskAccount}
use Rattle.shot_core.specs.declared.roles.Role.TheVariants.{Desk, Actor}
use Rattle.shot_core.specs.declared.views.View.{View}
use Rattle.shot_core.specs.Views.{nothing, spent_view}

-- the desk's account; it never has anything in hand
abbrev pub desk_view : FluxSystem → List ℕ → DeskAccount → View
desk_view s direct desk = record {
  system = s;
  direct = direct;
  taken = desk.taken;
  given = desk.given;
  hand = nothing s;
  err = desk.err;
  parts = desk.parts;
  wins = desk.wins;
  out = desk.out;
  role = Desk;
}

-- the account of an actor that was not retired
abbrev pub open_view : FluxSystem → List ℕ → Account → View
open_view s direct a = record {
  system = s;
  direct = direct;
  taken = a.taken;
  given = a.given;
  hand = a.hand.amounts;
  err = a.hand.fractions;
  parts = 1;
  wins = a.wins;
  out = 0;
  role = Actor;
}

-- the account of an actor
abbrev pub account_view : FluxSystem → List ℕ → Account → View
account_view s direct a = if a.is_retired then spent_view else open_view s direct a
