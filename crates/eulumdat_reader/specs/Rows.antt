-- The lines of an EULUMDAT text by their number, which counts from 1.
use Rattle.std.specs.Prelude.{ℕ, ◌+◌, ◌-◌, ◌==◌, Bool, Option, Some, None, Result, Ok, Err, List, [], ◌∷◌, length, map, drop, slice_get, slice_set, position, is_some}
use Rattle.duties.specs.Duties.{Duty, unless, first, each}
use Rattle.lux_lines.specs.Places.{Piece}
use Rattle.lux_lines.specs.Lines.{lines}
use Rattle.lux_lines.specs.Walks.{LinesRead}
use Rattle.lux_lines.specs.Ends.{without_spaces}
use Rattle.lux_num.specs.declared.decimal.Decimal.{Decimal}
use Rattle.lux_num.specs.declared.decimal.NumFault.{NumFault}
use Rattle.lux_num.specs.Decimal.{number_of}
use Rattle.photo_numbers.specs.Numbers.{zero_number}
use Rattle.eulumdat_reader.specs.declared.faults.LdtFault.{LdtFault}
use Rattle.eulumdat_reader.specs.declared.faults.LdtFault.TheVariants.{Short, Number, Trailing}

-- all lines of a text of which some were read
abbrev pub all_lines : LinesRead → List Piece
all_lines source = lines source.text

abbrev pub is_comma : ℕ → Bool
is_comma byte = byte == 44

-- a text whose first comma is a point
unfoldable pub with_point : List ℕ → List ℕ
with_point text = at_comma (position is_comma text)
  where
    at_comma : Option ℕ → List ℕ
    at_comma None = text
    at_comma (Some place) = slice_set text place 46

-- what a line says as a number: without blanks and tabs at both ends, and its first comma a point
abbrev pub reading : List ℕ → Result Decimal NumFault
reading line = number_of (with_point (without_spaces line))

-- the number that a line is; zero where it is none
unfoldable pub row_number : List ℕ → Decimal
row_number line = or_zero (reading line)
  where
    or_zero : Result Decimal NumFault → Decimal
    or_zero (Ok number) = number
    or_zero (Err fault) = zero_number

-- a line is a number; else the fault has the line's number
unfoldable pub row_number_duty : ℕ → List ℕ → Duty LdtFault
row_number_duty row line = of_reading (reading line)
  where
    of_reading : Result Decimal NumFault → Duty LdtFault
    of_reading (Ok number) = None
    of_reading (Err fault) = Some (Number row fault)

-- the line with a number
unfoldable pub row_at : List Piece → ℕ → Option Piece
row_at all row = slice_get all (row - 1)

-- the number that a line is; zero where it is none
unfoldable pub number_at : List Piece → ℕ → Decimal
number_at all row = or_zero (row_at all row)
  where
    or_zero : Option Piece → Decimal
    or_zero None = zero_number
    or_zero (Some line) = row_number line.text

-- a line is there
unfoldable pub presence_duty : List Piece → ℕ → Duty LdtFault
presence_duty all row = unless (is_some (row_at all row)) (Short row)

-- a line is there and is a number
unfoldable pub number_duty : List Piece → ℕ → Duty LdtFault
number_duty all row = of_line (row_at all row)
  where
    of_line : Option Piece → Duty LdtFault
    of_line None = Some (Short row)
    of_line (Some line) = row_number_duty row line.text

-- a line is there, is a number, and that number passes its rule
unfoldable pub field : List Piece → ℕ → (Decimal → Duty LdtFault) → Duty LdtFault
field all row rule = first (number_duty all row ∷ rule (number_at all row) ∷ [])

-- so many lines from one on are there, whatever they say
unfoldable pub any_rows : List Piece → ℕ → ℕ → Duty LdtFault
any_rows all row count = each count (λ i. presence_duty all (row + i))

-- a line has only blanks and tabs
unfoldable pub blank_row : Piece → Duty LdtFault
blank_row line = unless (length (without_spaces line.text) == 0) (Trailing line.number)

-- from a line on, all lines have only blanks and tabs
unfoldable pub only_blanks : List Piece → ℕ → Duty LdtFault
only_blanks all row = first (map blank_row (drop (row - 1) all))
