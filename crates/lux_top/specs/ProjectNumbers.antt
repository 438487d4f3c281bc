-- The numbers that give a project.
use Rattle.std.specs.Prelude.{ℕ, nat_le, Bool}

-- 0 to 9,999
abbrev pub is_project_number : ℕ → Bool
is_project_number number = nat_le number 9999
