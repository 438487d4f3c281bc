-- The texts that are names. The limit is this project's own.
use Rattle.std.specs.Prelude.{◌≡◌, ◌⊎◌, ℕ, ◌≤◌, ◌<◌, List, length}

-- a name has 1 to 255 bytes
pub record IsName (text : List ℕ) : Type 0 where
  pub some : 1 ≤ length text
  pub few : length text ≤ 255

-- a text of no byte, or of more than 255
abbrev pub IsNoName : List ℕ → Type 0
IsNoName text = (length text ≡ 0) ⊎ (255 < length text)
