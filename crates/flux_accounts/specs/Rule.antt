-- The rule of a bank's table: what holds of its words and of all histories between any two steps.
use Rattle.std.specs.Prelude.{◌≡◌, ℕ, List, ◌∷◌, map}
use Rattle.atomic_table.specs.Table.{State}
use Rattle.flux_system.specs.System.{FluxSystem}
use Rattle.shot_core.specs.Accounts.{AccountsHold}
use Rattle.flux_accounts.specs.declared.histories.History.{History}
use Rattle.flux_accounts.specs.Histories.{account_of}

-- a table without slots: its words, and the history of the desk and of each seat
abbrev pub BankTable : Type 0
BankTable = State (Unit {0}) History

-- The first word is 0 and serves hires and retires alone. The others are the residuals, patch by patch, and the accounts over them hold.
pub record AreKept (s : FluxSystem) (direct : List ℕ) (t : BankTable) : Type 0 where
  pub residual : List ℕ
  pub words : t.words ≡ 0 ∷ residual
  pub accounts : AccountsHold s direct residual (map account_of t.views)
