-- What the program's own parts need of each other. No public clause cites it.
use Rattle.std.specs.Prelude.{◌≡◌, ℕ, ◌+◌, ◌*◌, ◌%◌, ◌≤◌}

-- some whole rows of n places each, from a place of the whole on
pub record IsBand (n start many : ℕ) : Type 0 where
  pub from_a_row : start % n ≡ 0
  pub whole_rows : many % n ≡ 0
  pub inside : start + many ≤ n * n
