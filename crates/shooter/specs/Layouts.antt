-- What takes and gives leave, as the code of a pass needs it. No public clause cites this.
use Rattle.std.specs.Prelude.{◌≡◌, ℕ, ◌<◌, List, All, ◌++◌, map, None}
use Rattle.flux_accounts.specs.declared.histories.Entry.{Entry}
use Rattle.flux_accounts.specs.declared.histories.Kind.TheVariants.{Give}
use Rattle.flux_accounts.specs.declared.seats.Take.{Take}
use Rattle.flux_accounts.specs.declared.seats.Take.TheVariants.{Won, Low, Lost}
use Rattle.flux_accounts.specs.Banks.{SeatFacts}
use Rattle.shooter.specs.Moments.{Moment, Sighting, after_steps}

-- what a take last learnt of its patch's word
abbrev pub value_left : Take → ℕ
value_left (Won t) = 0
value_left (Low seen) = seen
value_left (Lost seen found) = found

-- a give, and what the patch's word has since
abbrev pub give_step : Sighting → Entry
give_step sighting = record { kind = Give; patch = sighting.patch; value = sighting.value }

-- gives to patches below n, after which the shooter has and remembers what they say
pub record IsGiving (n threshold : ℕ) (old : SeatFacts) (old_remembered : List ℕ) (new : SeatFacts) (new_remembered : List ℕ) : Type 0 where
  pub gives : List Sighting
  pub inside : All (λ sighting. sighting.patch < n) gives
  pub log : new.history.log ≡ old.history.log ++ map give_step gives
  pub moments : (m : Moment) → m.remembered ≡ old_remembered → m.account ≡ old.history.account → m.due ≡ None
      → after_steps threshold m (map give_step gives) ≡ record m { remembered = new_remembered; account = new.history.account }
  pub looks : new.history.looks ≡ old.history.looks
  pub lost : new.history.lost ≡ old.history.lost
  pub wins : new.history.account.wins ≡ old.history.account.wins
  pub system : new.history.account.system ≡ old.history.account.system
  pub number : new.number ≡ old.number
  pub table : new.table ≡ old.table
