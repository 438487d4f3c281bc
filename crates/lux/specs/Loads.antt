-- How much is taken from a reader and given to a writer, where their bytes are known.
use Rattle.std.specs.Prelude.{ℕ, ◌≤◌, List, length, take, Option}
use Rattle.std.specs.Io.KnownBytes.{Appends, Consumes}

-- some bytes were taken from the front of a reader, and no more than so many
pub record TakesAtMost (most : ℕ) (before after : Option (List ℕ)) : Type 0 where
  pub taken : List ℕ
  pub few : length taken ≤ most
  pub consumed : Consumes before after taken

-- a front of these bytes was given to a writer
pub record AppendsSome (before after : Option (List ℕ)) (bytes : List ℕ) : Type 0 where
  pub count : ℕ
  pub few : count ≤ length bytes
  pub appended : Appends before after (take count bytes)
