-- The greatest of some values, and where it stands first.
use Rattle.std.specs.Prelude.{ℕ, ◌==◌, max, List, fold, position, unwrap_or}

-- the greatest of some values, 0 where there are none
abbrev pub greatest_value : List ℕ → ℕ
greatest_value values = fold max 0 values

-- the first place of the greatest value, 0 where there are none
abbrev pub greatest_place : List ℕ → ℕ
greatest_place values = unwrap_or (position (λ value. value == greatest_value values) values) 0
