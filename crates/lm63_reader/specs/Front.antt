-- The lines of an LM-63 text up to its TILT line (IES LM-63; which headers are read and which blanks count is this project's own rule).
use Rattle.std.specs.Prelude.{ℕ, ◌+◌, ◌||◌, Bool, true, false, if◌then◌else◌, Option, Some, None, List, [], ◌∷◌, drop, length, codes, find, nat_eq, is_some, option_and_then}
use Rattle.std.specs.List.{starts_with}
use Rattle.std.specs.Str.{bytes_eq}
use Rattle.duties.specs.Duties.{Duty, unless}
use Rattle.lux_lines.specs.Places.{Piece}
use Rattle.lux_lines.specs.Lines.{lines, line_text}
use Rattle.lux_lines.specs.Tokens.{tokens}
use Rattle.lux_lines.specs.Ends.{is_space, without_spaces, without_suffix}
use Rattle.lm63_reader.specs.declared.faults.LmFault.{LmFault}
use Rattle.lm63_reader.specs.declared.faults.LmFault.TheVariants.{Header, Tilt, TiltFile}

-- a header line of 2002, or of one of the older layouts with the same thirteen fields; blanks and tabs at its end are left out
abbrev pub is_header : List ℕ → Bool
is_header line =
    bytes_eq (without_suffix is_space line) (codes "IESNA:LM-63-2002")
    || bytes_eq (without_suffix is_space line) (codes "IESNA:LM-63-1995")
    || bytes_eq (without_suffix is_space line) (codes "IESNA91")

-- a line begins with `TILT=`
abbrev pub is_tilt : Piece → Bool
is_tilt line = starts_with nat_eq line.text (codes "TILT=")

-- the TILT line: the first behind the first line that begins so
unfoldable pub tilt_line : List ℕ → Option Piece
tilt_line text = find is_tilt (drop 1 (lines text))

-- whether the tilt is included, by what follows `TILT=`: `NONE` or `INCLUDE`
unfoldable pub inclusion : List ℕ → Option Bool
inclusion line =
    if bytes_eq (without_spaces (drop 5 line)) (codes "NONE") then Some false
    else (if bytes_eq (without_spaces (drop 5 line)) (codes "INCLUDE") then Some true else None)

-- whether the text's tilt is included
unfoldable pub tilt_inclusion : List ℕ → Option Bool
tilt_inclusion text = option_and_then (λ (line : Piece). inclusion line.text) (tilt_line text)

-- the tests of these lines, in their order
unfoldable pub front_duties : List ℕ → List (Duty LmFault)
front_duties text =
    unless (is_header (line_text text 0)) Header
    ∷ unless (is_some (tilt_line text)) Tilt
    ∷ unless (is_some (tilt_inclusion text)) TiltFile
    ∷ []

-- the tokens behind the TILT line
unfoldable pub tokens_behind : List ℕ → List Piece
tokens_behind text = behind (tilt_line text)
  where
    behind : Option Piece → List Piece
    behind None = []
    behind (Some line) = tokens line.number (drop (line.start + length line.text) text)
