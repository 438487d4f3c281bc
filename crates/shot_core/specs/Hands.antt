-- What a hand has, as contracts see it.
use Rattle.std.specs.Prelude.{ℕ, Bool, ◌==◌, List}
use Rattle.std.specs.List.{list_all}

-- for each patch the nanolumens that are to be given to it, and what is left below one, in parts of 10^-12 nanolumens
pub record Holdings : Type 0 where
  pub amounts : List ℕ
  pub fractions : List ℕ

-- no patch is to be given anything
abbrev pub is_empty : List ℕ → Bool
is_empty amounts = list_all (λ amount. amount == 0) amounts
