-- The words of a command line, without the program's name: a keyword, and behind it operands and options in any order. The
-- rules are this project's own.
use Rattle.std.specs.Prelude.{ℕ, ◌+◌, ◌-◌, ◌==◌, ◌&&◌, ◌||◌, not, nat_lt, nat_le, if◌then◌else◌, Bool, List, [], ◌∷◌, length, map, filter, take, position, slice_index, slice_index_or, Option, Some, None, option_and_then}
use Rattle.std.specs.List.{list_any, list_all, range_with_len}
use Rattle.std.specs.Option.{option_map}
use Rattle.std.specs.Str.{bytes_eq}

-- the word at a place, or an empty one
abbrev pub word_at : List (List ℕ) → ℕ → List ℕ
word_at words place = slice_index_or words place []

-- an operand, which names a file or a number: 1 to 255 bytes, of which the first is no dash
abbrev pub is_operand : List ℕ → Bool
is_operand word = nat_le 1 (length word) && nat_le (length word) 255 && not (slice_index word 0 == 45)

-- a word is among some words
abbrev pub is_among : List (List ℕ) → List ℕ → Bool
is_among words word = list_any (λ other. bytes_eq other word) words

-- the options that a command takes: those that stand alone, and those whose value is the word behind them
pub record Options : Type 0 where
  pub flags : List (List ℕ)
  pub settings : List (List ℕ)

-- a command without options
abbrev pub no_options : Options
no_options = record { flags = []; settings = [] }

-- the word at a place is the value of the option before it
abbrev pub is_value : Options → List (List ℕ) → ℕ → Bool
is_value options words place = is_among options.settings (word_at words (place - 1))

-- an option that the command takes stands at a place, and nowhere before it; one with a value has a word behind it
abbrev pub is_option : Options → List (List ℕ) → ℕ → Bool
is_option options words place =
    (is_among options.flags (word_at words place) || (is_among options.settings (word_at words place) && nat_lt (place + 1) (length words)))
    && not (is_among (take place words) (word_at words place))

-- the word at a place behind the keyword is an operand, or an option that is no value
abbrev pub is_argument : Options → List (List ℕ) → ℕ → Bool
is_argument options words place =
    is_operand (word_at words place) || (is_option options words place && not (is_value options words place))

-- the places behind the keyword
abbrev pub places_behind : List (List ℕ) → List ℕ
places_behind words = range_with_len 1 (length words - 1)

-- the words begin with the keyword, and all behind it are arguments
abbrev pub is_command : List ℕ → Options → List (List ℕ) → Bool
is_command keyword options words = bytes_eq (word_at words 0) keyword && list_all (is_argument options words) (places_behind words)

-- an operand at a place that is not the value of an option
abbrev pub is_own_operand : Options → List (List ℕ) → ℕ → Bool
is_own_operand options words place = is_operand (word_at words place) && not (is_value options words place)

-- the operands of a command, in their order: values of options are none
abbrev pub operands : Options → List (List ℕ) → List (List ℕ)
operands options words = map (word_at words) (filter (is_own_operand options words) (places_behind words))

-- the operands, where the words are this command
abbrev pub operands_of : List ℕ → Options → List (List ℕ) → Option (List (List ℕ))
operands_of keyword options words = if is_command keyword options words then Some (operands options words) else None

-- the only operand, where the words are this command with one
abbrev pub only_operand : List ℕ → Options → List (List ℕ) → Option (List ℕ)
only_operand keyword options words = option_and_then only (operands_of keyword options words)
  where
    only : List (List ℕ) → Option (List ℕ)
    only (operand ∷ []) = Some operand
    only _ = None

-- both operands, where the words are this command with two
abbrev pub two_operands : List ℕ → Options → List (List ℕ) → Option (List ℕ × List ℕ)
two_operands keyword options words = option_and_then both (operands_of keyword options words)
  where
    both : List (List ℕ) → Option (List ℕ × List ℕ)
    both (one ∷ other ∷ []) = Some (one, other)
    both _ = None

-- the value of an option: the word behind the first place where it stands, or an empty one. In words that are a command an
-- option stands once, and its value has an operand's form.
unfoldable pub setting_of : List ℕ → List (List ℕ) → Option (List ℕ)
setting_of option words = option_map (λ place. word_at words (place + 1)) (position (λ word. bytes_eq word option) words)
