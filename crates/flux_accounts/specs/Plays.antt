-- What each step on a word tells its caller. No public clause cites this.
use Rattle.std.specs.Prelude.{◌≡◌, ℕ, ◌+◌, ◌*◌, ◌<◌, ◌≤◌, ◌^◌, ◌==◌, if◌then◌else◌}
use Rattle.atomic_table.specs.Table.{Me, Step}
use Rattle.flux_system.specs.System.{patches}
use Rattle.shot_core.specs.declared.views.View.{View}
use Rattle.shot_core.specs.Views.{taken_at, hand_at}
use Rattle.flux_accounts.specs.declared.histories.History.{History}
use Rattle.flux_accounts.specs.Histories.{after_looking, after_winning, after_losing, after_giving}

abbrev pub Seated : Type 0
Seated = Me (Unit {0}) History

-- what the accounts bound of one view
pub record IsBounded (v : View) : Type 0 where
  pub hand : (j : ℕ) → j < patches v.system → hand_at j v ≤ 10 ^ 16
  pub taken : (i : ℕ) → i < patches v.system → taken_at i v ≤ 2 * 10 ^ 17
  pub wins : v.wins ≤ 2 * 10 ^ 17

-- after an exchange of a value for 0 that found this
abbrev pub after_exchange : History → ℕ → ℕ → ℕ → History
after_exchange h i seen found = if found == seen then after_winning h i seen else after_losing h i found

-- the history after each step is a function of that before, the patch and the value found
abbrev pub tells_look : Step (Unit {0}) → Seated → ℕ → Seated → Type 0
tells_look step me found after = (j : ℕ) → step.word ≡ j + 1 → after ≡ (after_looking me.0 j found, me.1)

abbrev pub tells_exchange : Step (Unit {0}) → Seated → ℕ → Seated → Type 0
tells_exchange step me found after = ((j : ℕ) → step.word ≡ j + 1 → after ≡ (after_exchange me.0 j step.first found, me.1)) × IsBounded after.0.account

abbrev pub tells_give : Step (Unit {0}) → Seated → ℕ → Seated → Type 0
tells_give step me found after = ((j : ℕ) → step.word ≡ j + 1 → after ≡ (after_giving me.0 j (found + step.first), me.1)) × ((found + step.first ≤ 10 ^ 16) × IsBounded after.0.account)
