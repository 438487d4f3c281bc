-- The numbers behind the TILT line, by their place.
use Rattle.std.specs.Prelude.{ℕ, ◌+◌, Option, Some, None, Result, Ok, Err, List, [], ◌∷◌, length, slice_get}
use Rattle.duties.specs.Duties.{Duty, first, each}
use Rattle.lux_lines.specs.Places.{Piece}
use Rattle.lux_num.specs.declared.decimal.Decimal.{Decimal}
use Rattle.lux_num.specs.declared.decimal.NumFault.{NumFault}
use Rattle.lux_num.specs.Decimal.{number_of}
use Rattle.photo_numbers.specs.Numbers.{zero_number}
use Rattle.lm63_reader.specs.declared.faults.LmFault.{LmFault}
use Rattle.lm63_reader.specs.declared.faults.LmFault.TheVariants.{Short, Number, Trailing}

-- the number that a token is; zero where it is none
unfoldable pub token_number : Piece → Decimal
token_number token = or_zero (number_of token.text)
  where
    or_zero : Result Decimal NumFault → Decimal
    or_zero (Ok number) = number
    or_zero (Err fault) = zero_number

-- a token is a number; else the fault has its line
unfoldable pub token_number_duty : Piece → Duty LmFault
token_number_duty token = of_reading (number_of token.text)
  where
    of_reading : Result Decimal NumFault → Duty LmFault
    of_reading (Ok number) = None
    of_reading (Err fault) = Some (Number token.number fault)

-- the number at a place, counted from 0; zero where none is
unfoldable pub number_at : List Piece → ℕ → Decimal
number_at all place = or_zero (slice_get all place)
  where
    or_zero : Option Piece → Decimal
    or_zero None = zero_number
    or_zero (Some token) = token_number token

-- a token stands at a place and is a number; else the fault has the number of tokens, or the line
unfoldable pub number_duty : List Piece → ℕ → Duty LmFault
number_duty all place = of_token (slice_get all place)
  where
    of_token : Option Piece → Duty LmFault
    of_token None = Some (Short (length all))
    of_token (Some token) = token_number_duty token

-- a token stands at a place, is a number, and that number passes its rule
unfoldable pub field : List Piece → ℕ → (Decimal → Duty LmFault) → Duty LmFault
field all place rule = first (number_duty all place ∷ rule (number_at all place) ∷ [])

-- so many numbers from a place on, which may be any
unfoldable pub any_numbers : List Piece → ℕ → ℕ → Duty LmFault
any_numbers all place count = each count (λ i. number_duty all (place + i))

-- no token stands at a place; else the fault has its line
unfoldable pub no_token : List Piece → ℕ → Duty LmFault
no_token all place = of_token (slice_get all place)
  where
    of_token : Option Piece → Duty LmFault
    of_token None = None
    of_token (Some token) = Some (Trailing token.number)
