-- The ledger text as it is read: the tests of its lines in their order, the first that fails is the refusal. The format is this
-- project's own.
use Rattle.std.specs.Prelude.{ℕ, ◌+◌, ◌==◌, ◌&&◌, ◌<◌, ◌≤◌, ◌^◌, Bool, if◌then◌else◌, nat_lt, nat_le, All, List, [], ◌∷◌, ◌++◌, length, map, slice_index, codes, Option, Some, None, Result}
use Rattle.std.specs.List.{range_with_len}
use Rattle.std.specs.Str.{bytes_eq}
use Rattle.duties.specs.Duties.{Duty, unless, each, judged}
use Rattle.flux_ledger.specs.Balance.{HasPatches}
use Rattle.flux_ledger.specs.declared.ledger.Ledger.{Ledger}
use Rattle.flux_system.specs.declared.TheConstants.{MOST_PATCHES}
use Rattle.lux_lines.specs.Lines.{lines, line_text}
use Rattle.lux_lines.specs.Words.{words, word_at}
use Rattle.ledger_file.specs.declared.faults.LedgerFault.{LedgerFault}
use Rattle.ledger_file.specs.declared.faults.LedgerFault.TheVariants.{Header, Trailing, Size}
use Rattle.ledger_file.specs.Forms.{count_form, patch_form, interval_form, have_form, line_numbers, line_duty, form_duty}

-- what a ledger text says: a ledger, and perhaps an interval for each of its patches
pub record LedgerFile : Type 0 where
  pub ledger : Ledger
  pub intervals : Option (List (ℕ × ℕ))

-- what line 2 says of the number of patches, 0 where it says nothing
abbrev pub patch_count : List ℕ → ℕ
patch_count text = slice_index (line_numbers (count_form (codes "patches")) text 1) 0

-- what lines 3 and 4 say of the wins and of the accounts
abbrev pub win_count : List ℕ → ℕ
win_count text = slice_index (line_numbers (count_form (codes "wins")) text 2) 0

abbrev pub part_count : List ℕ → ℕ
part_count text = slice_index (line_numbers (count_form (codes "parts")) text 3) 0

-- line 4 has the form of the accounts, in a number of 32 bits
abbrev pub parts_duty : List ℕ → Duty LedgerFault
parts_duty text = line_duty text 3 (have_form (count_form (codes "parts")) (words (line_text text 3)) && nat_lt (part_count text) (2 ^ 32))

-- a number of the line of patch j: which, its place among the numbers of the line says
abbrev pub patch_number : List ℕ → ℕ → ℕ → ℕ
patch_number text place j = slice_index (line_numbers patch_form text (4 + j)) place

-- the line of patch j has its form, and its first number is j
abbrev pub patch_duty : List ℕ → ℕ → Duty LedgerFault
patch_duty text j = line_duty text (4 + j) (have_form patch_form (words (line_text text (4 + j))) && (patch_number text 0 j == j))

-- behind the lines of n patches is one whose first word is `interval`
abbrev pub has_intervals : List ℕ → ℕ → Bool
has_intervals text n = nat_lt (4 + n) (length (lines text)) && bytes_eq (word_at (words (line_text text (4 + n))) 0) (codes "interval")

-- a number of the interval line of patch j, behind the lines of n patches
abbrev pub interval_number : List ℕ → ℕ → ℕ → ℕ → ℕ
interval_number text n place j = slice_index (line_numbers interval_form text (4 + n + j)) place

-- the interval line of patch j has its form, and its first number is j
abbrev pub interval_duty : List ℕ → ℕ → ℕ → Duty LedgerFault
interval_duty text n j = line_duty text (4 + n + j) (have_form interval_form (words (line_text text (4 + n + j))) && (interval_number text n 0 j == j))

-- there is an interval line for each of n patches, where there are such lines
abbrev pub intervals_duty : List ℕ → ℕ → Duty LedgerFault
intervals_duty text n = if has_intervals text n then each n (interval_duty text n) else None

-- how many lines there are: four, and one or two for each of n patches
abbrev pub line_count : List ℕ → ℕ → ℕ
line_count text n = if has_intervals text n then 4 + n + n else 4 + n

-- no line stands behind these
abbrev pub end_duty : List ℕ → ℕ → Duty LedgerFault
end_duty text n = unless (nat_le (length (lines text)) (line_count text n)) (Trailing (line_count text n + 1))

-- the first four lines: header, number of patches, wins, accounts
unfoldable pub head_duties : List ℕ → List (Duty LedgerFault)
head_duties text =
    unless (bytes_eq (line_text text 0) (codes "lux-ledger 1")) Header
    ∷ form_duty (count_form (codes "patches")) text 1
    ∷ unless (nat_le 1 (patch_count text) && nat_le (patch_count text) MOST_PATCHES) (Size (patch_count text))
    ∷ form_duty (count_form (codes "wins")) text 2
    ∷ parts_duty text
    ∷ []

-- the lines of n patches behind them, their intervals where there are any, and no more
unfoldable pub list_duties : List ℕ → ℕ → List (Duty LedgerFault)
list_duties text n = each n (patch_duty text) ∷ intervals_duty text n ∷ end_duty text n ∷ []

-- all lines
unfoldable pub text_duties : List ℕ → List (Duty LedgerFault)
text_duties text = head_duties text ++ list_duties text (patch_count text)

-- the numbers at one place of the lines of n patches
unfoldable pub patch_numbers : List ℕ → ℕ → ℕ → List ℕ
patch_numbers text n place = map (patch_number text place) (range_with_len 0 n)

-- the ledger that the lines of n patches and those before them say
unfoldable pub ledger_in : List ℕ → ℕ → Ledger
ledger_in text n = record {
  direct = patch_numbers text n 1;
  taken = patch_numbers text n 2;
  residual = patch_numbers text n 3;
  err = patch_numbers text n 4;
  parts = part_count text;
  wins = win_count text;
}

-- both ends on the interval line of patch j
abbrev pub ends_in : List ℕ → ℕ → ℕ → ℕ × ℕ
ends_in text n j = (interval_number text n 1 j, interval_number text n 2 j)

-- the intervals of n patches, where there are any
unfoldable pub intervals_in : List ℕ → ℕ → Option (List (ℕ × ℕ))
intervals_in text n = if has_intervals text n then Some (map (ends_in text n) (range_with_len 0 n)) else None

-- the ledger of a text, with its intervals, or the text's refusal
abbrev pub ledger_of : List ℕ → Result LedgerFile LedgerFault
ledger_of text = judged (text_duties text) (record { ledger = ledger_in text (patch_count text); intervals = intervals_in text (patch_count text) })

-- a ledger that a text can say: 1 to MOST_PATCHES patches, and numbers of 64 bits, but for the accounts, which have 32
pub record IsWritable (l : Ledger) : Type 0 where
  pub some : 1 ≤ length l.direct
  pub few : length l.direct ≤ MOST_PATCHES
  pub lengths : HasPatches (length l.direct) l
  pub direct : All (λ value. value < 2 ^ 64) l.direct
  pub taken : All (λ value. value < 2 ^ 64) l.taken
  pub residual : All (λ value. value < 2 ^ 64) l.residual
  pub err : All (λ value. value < 2 ^ 64) l.err
  pub parts : l.parts < 2 ^ 32
  pub wins : l.wins < 2 ^ 64
