-- The forms of lines of a ledger text: which words and numerals stand on them, with one blank between each two. The format is
-- this project's own.
use Rattle.std.specs.Prelude.{ℕ, ◌+◌, ◌&&◌, Bool, true, false, if◌then◌else◌, nat_lt, List, [], ◌∷◌, length, codes, Some}
use Rattle.std.specs.Str.{bytes_eq}
use Rattle.duties.specs.Duties.{Duty, unless}
use Rattle.lux_lines.specs.Lines.{lines, line_text}
use Rattle.lux_lines.specs.Words.{words}
use Rattle.lux_lines.specs.Numerals.{is_numeral, numeral_value}
use Rattle.ledger_file.specs.declared.faults.LedgerFault.{LedgerFault}
use Rattle.ledger_file.specs.declared.faults.LedgerFault.TheVariants.{Short, Number}

-- a place on a line has this word, or any numeral
pub data Place : Type 0 where
  Word : List ℕ → Place
  Numeral : Place

abbrev pub fits : Place → List ℕ → Bool
fits (Word expected) word = bytes_eq word expected
fits Numeral word = is_numeral word

-- there are as many words as places, and each fits its place
abbrev pub have_form : List Place → List (List ℕ) → Bool
have_form [] [] = true
have_form (place ∷ places) (word ∷ words) = fits place word && have_form places words
have_form _ _ = false

-- the numbers at the places of numerals, in their order
abbrev pub numbers_of : List Place → List (List ℕ) → List ℕ
numbers_of (Word expected ∷ places) (word ∷ words) = numbers_of places words
numbers_of (Numeral ∷ places) (word ∷ words) = numeral_value word ∷ numbers_of places words
numbers_of _ _ = []

-- a keyword and a numeral
abbrev pub count_form : List ℕ → List Place
count_form keyword = Word keyword ∷ Numeral ∷ []

-- the number of a patch, and its direct flux, what was taken of it, its residual and its fraction
abbrev pub patch_form : List Place
patch_form =
    Word (codes "patch") ∷ Numeral ∷ Word (codes "direct") ∷ Numeral ∷ Word (codes "taken") ∷ Numeral
    ∷ Word (codes "residual") ∷ Numeral ∷ Word (codes "err") ∷ Numeral ∷ []

-- the number of a patch, and both ends of its interval
abbrev pub interval_form : List Place
interval_form = Word (codes "interval") ∷ Numeral ∷ Numeral ∷ Numeral ∷ []

-- the numbers of line k of the text, counted from 0, in a form
unfoldable pub line_numbers : List Place → List ℕ → ℕ → List ℕ
line_numbers form text k = numbers_of form (words (line_text text k))

-- line k of the text is there, and passes a test
unfoldable pub line_duty : List ℕ → ℕ → Bool → Duty LedgerFault
line_duty text k test = if nat_lt k (length (lines text)) then unless test (Number (k + 1)) else Some Short

-- line k of the text is there, and has a form
abbrev pub form_duty : List Place → List ℕ → ℕ → Duty LedgerFault
form_duty form text k = line_duty text k (have_form form (words (line_text text k)))
