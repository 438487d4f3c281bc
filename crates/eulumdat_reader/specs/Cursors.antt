-- What the reader of lines keeps from one line to the next. No contract of a public call speaks of it.
use Rattle.std.specs.Prelude.{◌≡◌, ℕ, ◌<◌, ◌≤◌, ◌^◌, length}
use Rattle.lux_lines.specs.Lines.{lines}
use Rattle.lux_lines.specs.Walks.{LinesRead}

-- so many lines of a text were read, no more than it has
pub record IsCounted (source : LinesRead) (read : ℕ) : Type 0 where
  pub fits : length source.text < 2 ^ 31
  pub counted : read ≡ source.read
  pub few : read ≤ length (lines source.text)
