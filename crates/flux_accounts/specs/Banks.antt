-- A bank, its desk and its seats as contracts see them.
use Rattle.std.specs.Prelude.{◌≡◌, ℕ, ◌<◌, List, []}
use Rattle.atomic_table.specs.Seated.{TableId}
use Rattle.flux_system.specs.System.{FluxSystem, patches}
use Rattle.shot_core.specs.declared.roles.Role.TheVariants.{Desk, Actor}
use Rattle.shot_core.specs.Views.{new_view, hand_at}
use Rattle.flux_accounts.specs.declared.histories.History.{History}
use Rattle.flux_accounts.specs.Histories.{new_history}

-- which table has its words, and the system and the direct flux that it was started with
pub record BankFacts : Type 0 where
  pub table : TableId
  pub system : FluxSystem
  pub direct : List ℕ

pub record SeatFacts : Type 0 where
  pub table : TableId
  pub number : ℕ
  pub history : History

pub record DeskFacts : Type 0 where
  pub table : TableId
  pub history : History

-- the seat is one of the bank's, and steps over its system
pub record IsSeatOf (bank : BankFacts) (seat : SeatFacts) : Type 0 where
  pub table : seat.table ≡ bank.table
  pub system : seat.history.account.system ≡ bank.system

-- the desk is the bank's
pub record IsDeskOf (bank : BankFacts) (desk : DeskFacts) : Type 0 where
  pub table : desk.table ≡ bank.table
  pub system : desk.history.account.system ≡ bank.system

-- nothing is in hand for any patch
abbrev pub HasEmptyHand : SeatFacts → Type 0
HasEmptyHand seat = (j : ℕ) → j < patches seat.history.account.system → hand_at j seat.history.account ≡ 0

-- the desk once so many seats were hired, and the seat with a number then
abbrev pub desk_at_start : BankFacts → ℕ → DeskFacts
desk_at_start bank seats = record { table = bank.table; history = record { account = record (new_view bank.system bank.direct Desk) { out = seats }; looks = 0; lost = 0; log = [] } }

abbrev pub seat_at_start : BankFacts → ℕ → SeatFacts
seat_at_start bank number = record { table = bank.table; number = number; history = new_history bank.system bank.direct Actor }
