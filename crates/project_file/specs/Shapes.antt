-- Shapes that only the code stands on: the files while they are read. No public clause cites these.
use Rattle.std.specs.Prelude.{ℕ, ◌&&◌, nat_le, Bool, if◌then◌else◌, List, [], ◌∷◌, ◌++◌, length, map}
use Rattle.std.specs.Borrow.{Bor}
use Rattle.std.specs.List.{list_all, list_any}
use Rattle.std.specs.Str.{bytes_eq}

-- what some references to texts point to
abbrev pub texts : List (Bor (List ℕ)) → List (List ℕ)
texts references = map (λ reference. reference.now) references

-- each text has 1 to 255 bytes
abbrev pub are_names : List (List ℕ) → Bool
are_names files = list_all (λ file. nat_le 1 (length file) && nat_le (length file) 255) files

-- some files, and behind them one more where it isn't among them
abbrev pub with_file : List (List ℕ) → List ℕ → List (List ℕ)
with_file files name = if list_any (bytes_eq name) files then files else files ++ name ∷ []
