-- What the answer of a take says of the steps that it made.
use Rattle.std.specs.Prelude.{◌≡◌, ◌≢◌, ℕ, ◌<◌, ◌≤◌}
use Rattle.flux_accounts.specs.declared.seats.Take.{Take}
use Rattle.flux_accounts.specs.declared.seats.Take.TheVariants.{Won, Low, Lost}
use Rattle.flux_accounts.specs.declared.histories.History.{History}
use Rattle.flux_accounts.specs.Histories.{after_looking, after_winning, after_losing}

-- one exchange of the value that was seen for 0: it was won, or found another value
abbrev pub IsExchange : History → ℕ → ℕ → Take → History → Type 0
IsExchange h i seen (Won t) after = (t ≡ seen) × (after ≡ after_winning h i seen)
IsExchange h i seen (Low value) after = ⊥
IsExchange h i seen (Lost value found) after = (value ≡ seen) × ((found ≢ seen) × (after ≡ after_losing h i found))

-- one look, and where it reached the threshold one exchange of what it saw
abbrev pub IsTake : ℕ → History → ℕ → Take → History → Type 0
IsTake threshold h i (Won t) after = (threshold ≤ t) × (after ≡ after_winning (after_looking h i t) i t)
IsTake threshold h i (Low seen) after = (seen < threshold) × (after ≡ after_looking h i seen)
IsTake threshold h i (Lost seen found) after = (threshold ≤ seen) × ((found ≢ seen) × (after ≡ after_losing (after_looking h i seen) i found))
