-- Shapes that only the code stands on. No public clause cites these.
use Rattle.std.specs.Prelude.{◌≡◌, ℕ, ◌+◌, ◌*◌, ◌/◌, ◌%◌, ◌^◌, ◌<◌, ◌≤◌, List, length, map, slice_index}
use Rattle.std.specs.List.{range_with_len}
use Rattle.flux_system.specs.System.{scale}
use Rattle.shot_core.specs.Hands.{Holdings}

-- no fraction is a whole nanolumen or more
abbrev pub AreSmall : List ℕ → Type 0
AreSmall fractions = (j : ℕ) → j < length fractions → slice_index fractions j < scale

-- what patch j has to its fraction, with the sums of a batch: of the factors' thousand millions and of their rests
abbrev pub parts_with : List ℕ → List ℕ → List ℕ → ℕ → ℕ
parts_with highs lows fractions j = slice_index fractions j + (10 ^ 9 * slice_index highs j + slice_index lows j)

-- a hand once the sums of a batch are carried to it
abbrev pub with_batch : Holdings → List ℕ → List ℕ → Holdings
with_batch hand highs lows = record {
  amounts = map (λ j. slice_index hand.amounts j + parts_with highs lows hand.fractions j / scale) (range_with_len 0 (length hand.amounts));
  fractions = map (λ j. parts_with highs lows hand.fractions j % scale) (range_with_len 0 (length hand.amounts));
}

-- the sums of so many shots, whose factors come to no more than `most` together, beside the hand that they will be carried to
pub record IsBatch (hand : Holdings) (highs lows : List ℕ) (shots most : ℕ) : Type 0 where
  pub of_fractions : length hand.fractions ≡ length hand.amounts
  pub small : AreSmall hand.fractions
  pub of_highs : length highs ≡ length hand.amounts
  pub of_lows : length lows ≡ length hand.amounts
  pub few : shots ≤ 16
  pub limited : most ≤ shots * (95 * 10 ^ 17)
  pub high : (j : ℕ) → j < length hand.amounts → slice_index highs j ≤ most
  pub low : (j : ℕ) → j < length hand.amounts → slice_index lows j ≤ shots * 10 ^ 18
  pub fits : (j : ℕ) → j < length hand.amounts → scale * slice_index hand.amounts j + parts_with highs lows hand.fractions j < scale * 2 ^ 64
