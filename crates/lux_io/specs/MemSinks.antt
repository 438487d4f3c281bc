-- What a sink in memory does exactly.
use Rattle.std.specs.Prelude.{◌≡◌, ℕ, ◌-◌, ◌/◌, min, Bool, ◌==◌, ◌&&◌, not, nat_le, if◌then◌else◌, List, ◌++◌, length, take, Some, Result, is_ok}
use Rattle.std.specs.List.{list_any}
use Rattle.lux_io.specs.Shelves.{next_count}
use Rattle.lux_io.specs.Sinks.{SinkState}

-- what was written, the room in bytes, the numbers of the pieces that fail, the number of the next piece, and how many failed
pub record MemSinkState : Type 0 where
  pub written : List ℕ
  pub room : ℕ
  pub failing : List ℕ
  pub puts : ℕ
  pub faults : ℕ

-- it tells what was written
abbrev pub state_of : MemSinkState → SinkState
state_of sink = record { written = Some sink.written; faults = sink.faults }

-- the number of the next piece is listed
abbrev pub fails_next : MemSinkState → Bool
fails_next sink = list_any (λ number. number == sink.puts) sink.failing

-- how many bytes still fit
abbrev pub room_left : MemSinkState → ℕ
room_left sink = sink.room - length sink.written

-- how many bytes of a piece are written: of a listed one its first half, and no more than fits
abbrev pub taken_of : MemSinkState → List ℕ → ℕ
taken_of sink piece = min (if fails_next sink then length piece / 2 else length piece) (room_left sink)

-- a piece is Ok exactly where it isn't listed and fits; its front of that length is written, and it and its failing are counted
pub record PutsExactly {T E : Type 0} (old : MemSinkState) (piece : List ℕ) (new : MemSinkState) (result : Result T E) : Type 0 where
  pub ok : is_ok result ≡ (not (fails_next old) && nat_le (length piece) (room_left old))
  pub after : new ≡ record old {
    written = old.written ++ take (taken_of old piece) piece;
    puts = next_count old.puts;
    faults = if is_ok result then old.faults else next_count old.faults;
  }
