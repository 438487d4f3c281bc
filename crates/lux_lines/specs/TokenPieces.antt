-- What a token of the code stands for.
use Rattle.lux_lines.specs.Places.{Piece}
use Rattle.lux_lines.specs.declared.tokens.Token.{Token}

abbrev pub token_piece : Token → Piece
token_piece token = record { number = token.number; start = token.start; text = token.text.now }
