-- What a bank, its seats and its desk have in memory. No public clause cites this.
use Rattle.std.specs.Prelude.{◌≡◌, ℕ, ◌+◌, ◌*◌, ◌<◌, ◌≤◌, ◌^◌, List, length}
use Rattle.atomic_table.specs.Seated.{TableId}
use Rattle.flux_system.specs.System.{FluxSystem, scale, patches}
use Rattle.flux_system.specs.Validity.{IsSystem}
use Rattle.shot_core.specs.declared.roles.Role.TheVariants.{Desk, Actor}
use Rattle.shot_core.specs.declared.views.View.{View}
use Rattle.shot_core.specs.Hands.{Holdings}
use Rattle.shot_core.specs.Views.{taken_at, err_at}
use Rattle.shot_core.specs.Accounts.{IsOfSystem}
use Rattle.flux_accounts.specs.Plays.{IsBounded}

-- a word for each patch and one more, and the direct flux of the valid system that the table was told
pub record BankLayout (table : TableId) (s : FluxSystem) (direct own_direct : List ℕ) : Type 0 where
  pub words : table.words ≡ patches s + 1
  pub slots : table.slots ≡ 0
  pub valid : IsSystem s
  pub same : own_direct ≡ direct
  pub lengths : length direct ≡ patches s

-- the numbers of a seat are those of its account
pub record SeatLayout (hand : Holdings) (own_taken : List ℕ) (own_wins : ℕ) (v : View) : Type 0 where
  pub amounts : hand.amounts ≡ v.hand
  pub fractions : hand.fractions ≡ v.err
  pub taken : own_taken ≡ v.taken
  pub wins : own_wins ≡ v.wins
  pub actor : v.role ≡ Actor
  pub one_part : v.parts ≡ 1
  pub shape : IsOfSystem v.system v.direct v
  pub bounds : IsBounded v

-- the numbers of the desk are those of its account, and with the seats that are out it has 65 parts at most
pub record DeskLayout (own_taken own_err : List ℕ) (own_parts own_wins own_out : ℕ) (v : View) : Type 0 where
  pub taken : own_taken ≡ v.taken
  pub err : own_err ≡ v.err
  pub parts : own_parts ≡ v.parts
  pub wins : own_wins ≡ v.wins
  pub out : own_out ≡ v.out
  pub desk : v.role ≡ Desk
  pub shape : IsOfSystem v.system v.direct v
  pub room : v.parts + v.out ≤ 65
  pub taken_bound : (i : ℕ) → i < patches v.system → taken_at i v ≤ 2 * 10 ^ 17 * v.parts
  pub err_bound : (j : ℕ) → j < patches v.system → err_at j v ≤ scale * v.parts
  pub wins_bound : v.wins ≤ 2 * 10 ^ 17 * v.parts
