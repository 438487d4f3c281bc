-- What some tables say, one by one.
use Rattle.std.proofs.Common.{◌≡◌, ℕ, ◌+◌, List, [], ◌∷◌, ◌++◌, length, map, ap, ◌∙◌, sym, Option, Some, arith}
use Rattle.std.specs.List.{range_with_len}
use Rattle.std.proofs.lemmas.List.{take_all}
use Rattle.std.proofs.lemmas.List.FromFn.{length-map-range_with_len}
use Rattle.laws.proofs.Ranges.{map-more}
use Rattle.toml.specs.Data.{Data, Members}
use Rattle.project_file.specs.Fields.{toml_table}
use Rattle.project_file.specs.Projects.{listed_table}
use Rattle.project_file.proofs.Repetitions.{values_by_places}

module _ {X : Type 0} (says : Members → X) where
  -- what table i says
  abbrev pub said_at : List Data → ℕ → X
  said_at tables i = says (listed_table tables i)

  -- what the first n tables say
  abbrev pub first_said : List Data → ℕ → List X
  first_said tables n = map (said_at tables) (range_with_len 0 n)

  pub one_more : (tables : List Data) (n : ℕ) → first_said tables (n + 1) ≡ first_said tables n ++ said_at tables n ∷ []
  one_more tables n = map-more (said_at tables) n

  pub how_many : (tables : List Data) (n : ℕ) → length (first_said tables n) ≡ n
  how_many tables n = length-map-range_with_len (said_at tables) 0 n

  pub all_said : (tables : List Data) → first_said tables (length tables) ≡ map (λ table. says (toml_table (Some table))) tables
  all_said tables =
      sym (values_by_places (λ (value : Option Data). says (toml_table value)) tables (length tables) (omega arith))
      ∙ ap (map (λ table. says (toml_table (Some table)))) (take_all (length tables) tables (omega arith))
