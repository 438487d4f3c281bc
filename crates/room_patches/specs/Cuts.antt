-- A length in whole millimetres that is cut into parts. The rounding of the bounds is this project's own.
use Rattle.std.specs.Prelude.{ℕ, ◌+◌, ◌-◌, ◌*◌, ◌/◌, ◌≤◌}
use Rattle.room_patches.specs.declared.cut.Cut.{Cut}

-- a length of at most 100,000 millimetres in 1 to 64 parts
pub record IsCut (cut : Cut) : Type 0 where
  pub short : cut.whole ≤ 100000
  pub some : 1 ≤ cut.parts
  pub few : cut.parts ≤ 64

-- bound k: part k lies between it and the next
abbrev pub bound : Cut → ℕ → ℕ
bound cut k = k * cut.whole / cut.parts

-- the middle of part k in half-millimetres, which is the sum of its bounds
abbrev pub middle : Cut → ℕ → ℕ
middle cut k = bound cut k + bound cut (k + 1)

-- the length of part k
abbrev pub part : Cut → ℕ → ℕ
part cut k = bound cut (k + 1) - bound cut k
