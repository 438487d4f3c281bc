-- What contracts see of the readers of lines and of tokens.
use Rattle.std.specs.Prelude.{ℕ, List}
use Rattle.lux_lines.specs.Places.{Piece}
use Rattle.lux_lines.specs.Tokens.{tokens}

-- a text of whose lines so many were read
pub record LinesRead : Type 0 where
  pub text : List ℕ
  pub read : ℕ

-- a text that begins on a line, of whose tokens so many were read
pub record TokensRead : Type 0 where
  pub text : List ℕ
  pub first_line : ℕ
  pub read : ℕ

-- all its tokens
abbrev pub all_tokens : TokensRead → List Piece
all_tokens source = tokens source.first_line source.text
