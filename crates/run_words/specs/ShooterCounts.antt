-- How many shooters a run has. The numbers are this project's own.
use Rattle.std.specs.Prelude.{ℕ, ◌&&◌, nat_le, Bool}
use Rattle.flux_system.specs.declared.TheConstants.{MOST_SEATS}

-- 1 to 64 shooters, for each takes a seat
abbrev pub is_shooter_count : ℕ → Bool
is_shooter_count count = nat_le 1 count && nat_le count MOST_SEATS

-- what a run has that asks for no number
abbrev pub default_shooters : ℕ
default_shooters = 4
