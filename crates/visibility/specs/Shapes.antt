-- Shapes that only the code stands on. No public clause cites these.
use Rattle.std.specs.Prelude.{◌≤◌, ◌^◌, unsigned_abs}
use Rattle.visibility.specs.declared.stretch.Stretch.{Stretch}

-- the numbers of a stretch are small enough to be multiplied
pub record IsBounded (part : Stretch) : Type 0 where
  pub low : unsigned_abs part.low ≤ 2 ^ 33
  pub high : unsigned_abs part.high ≤ 2 ^ 33
  pub whole : part.whole ≤ 200000
