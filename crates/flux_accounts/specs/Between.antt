-- What the rule of a bank's table says of the moment between any two steps.
use Rattle.std.specs.Prelude.{ℕ, List, map}
use Rattle.flux_system.specs.System.{FluxSystem}
use Rattle.shot_core.specs.Accounts.{AccountsHold}
use Rattle.shot_core.specs.Conserved.{IsConserved, WinsAreBounded, WordsAreBounded}
use Rattle.flux_accounts.specs.Histories.{account_of}
use Rattle.flux_accounts.specs.Rule.{BankTable, AreKept}

-- the accounts hold, the direct flux is conserved, all wins are within the bound of takes, and each word and all that is in hand for it fit
pub record IsInOrder (s : FluxSystem) (direct residual : List ℕ) (t : BankTable) : Type 0 where
  pub accounts : AccountsHold s direct residual (map account_of t.views)
  pub conserved : IsConserved s direct residual (map account_of t.views)
  pub wins : WinsAreBounded s direct (map account_of t.views)
  pub words : WordsAreBounded s residual (map account_of t.views)

abbrev pub BetweenSteps : Type 0
BetweenSteps = (s : FluxSystem) (direct : List ℕ) (t : BankTable) (kept : AreKept s direct t) → IsInOrder s direct kept.residual t
