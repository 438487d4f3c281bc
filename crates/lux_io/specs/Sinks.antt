-- What a sink holds and counts, and what one piece does to it.
use Rattle.std.specs.Prelude.{◌≡◌, ℕ, ◌≤◌, List, ◌++◌, length, take, Option, Result, Ok, Err}
use Rattle.std.specs.Option.{option_map}
use Rattle.lux_io.specs.Shelves.{Rose}

-- what was written, in a sink that tells it, and how many pieces failed
pub record SinkState : Type 0 where
  pub written : Option (List ℕ)
  pub faults : ℕ

-- what is told, with these bytes at its end
abbrev pub with_bytes : Option (List ℕ) → List ℕ → Option (List ℕ)
with_bytes written bytes = option_map (λ told. told ++ bytes) written

-- no fault, and these bytes at the end
abbrev pub Wrote : SinkState → SinkState → List ℕ → Type 0
Wrote before after bytes = after ≡ record before { written = with_bytes before.written bytes }

-- a fault, and some of these bytes, from their front, at the end
pub record WroteSome (before after : SinkState) (bytes : List ℕ) : Type 0 where
  pub rose : Rose before.faults after.faults
  pub count : ℕ
  pub few : count ≤ length bytes
  pub written : after.written ≡ with_bytes before.written (take count bytes)

-- what a piece may do, by its answer
abbrev pub Puts : {T E : Type 0} → SinkState → SinkState → List ℕ → Result T E → Type 0
Puts before after piece (Ok _) = Wrote before after piece
Puts before after piece (Err _) = WroteSome before after piece
