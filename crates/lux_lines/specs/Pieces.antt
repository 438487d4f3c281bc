-- What a line of the code stands for.
use Rattle.lux_lines.specs.Places.{Piece}
use Rattle.lux_lines.specs.declared.lines.Line.{Line}

abbrev pub line_piece : Line → Piece
line_piece line = record { number = line.number; start = line.start; text = line.text.now }
