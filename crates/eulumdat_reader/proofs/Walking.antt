-- Steps along the lines of a text.
use Rattle.std.proofs.Common.{◌≡◌, ℕ, ◌+◌, ◌-◌, ◌≤◌, List, Option, Some, None, length, map, drop, refl, sym, ap, ◌∙◌, arith}
use Rattle.std.specs.Prelude.{slice_get, is_some}
use Rattle.std.specs.List.{range_with_len}
use Rattle.std.proofs.lemmas.List.{length-map}
use Rattle.std.proofs.lemmas.List.Sums.{length-filter, count_by-le-length}
use Rattle.std.proofs.lemmas.List.FromFn.{length-range_with_len}
use Rattle.duties.specs.Duties.{first}
use Rattle.duties.proofs.Orders.{unless_holds, unless_fails}
use Rattle.lux_lines.specs.Places.{Piece}
use Rattle.lux_lines.specs.Lines.{lines, lines_from, starts_line}
use Rattle.eulumdat_reader.specs.declared.faults.LdtFault.{LdtFault}
use Rattle.eulumdat_reader.specs.declared.faults.LdtFault.TheVariants.{Short}
use Rattle.eulumdat_reader.specs.Rows.{row_at, row_number, row_number_duty, number_at, presence_duty, number_duty, blank_row, only_blanks}

-- a text has no more lines than bytes
pub few_lines : (text : List ℕ) → length (lines text) ≤ length text
unfolding lines lines_from
few_lines text = simp (length-map, length-filter) (omega (arith, count_by-le-length (starts_line text) (range_with_len 0 (length text - 0)), length-range_with_len 0 (length text - 0)))

-- the line behind so many
pub row_behind : (all : List Piece) (read : ℕ) → row_at all (read + 1) ≡ slice_get all read
unfolding row_at
row_behind all read = let e : read + 1 - 1 ≡ read = omega arith in rw e refl

pub presence_duty_none : (all : List Piece) (row : ℕ) → row_at all row ≡ None → presence_duty all row ≡ Some (Short row)
unfolding presence_duty
presence_duty_none all row h = unless_fails _ _ (ap is_some h)

pub presence_duty_some : (all : List Piece) (row : ℕ) (line : Piece) → row_at all row ≡ Some line → presence_duty all row ≡ None
unfolding presence_duty
presence_duty_some all row line h = unless_holds _ _ (ap is_some h)

pub number_duty_none : (all : List Piece) (row : ℕ) → row_at all row ≡ None → number_duty all row ≡ Some (Short row)
unfolding number_duty
number_duty_none all row h = rw h refl

pub number_duty_some : (all : List Piece) (row : ℕ) (line : Piece) → row_at all row ≡ Some line → (number_duty all row ≡ row_number_duty row line.text) × (number_at all row ≡ row_number line.text)
unfolding number_duty number_at
number_duty_some all row line h = (rw h refl, rw h refl)

-- where a line is missing, it is no number
pub numeric_missing : (all : List Piece) (row : ℕ) (fault : LdtFault) → presence_duty all row ≡ Some fault → number_duty all row ≡ Some fault
numeric_missing all row fault h = by_line (row_at all row) refl
  where
    by_line : (line : Option Piece) → row_at all row ≡ line → number_duty all row ≡ Some fault
    by_line None is = number_duty_none all row is ∙ (sym (presence_duty_none all row is) ∙ h)
    by_line (Some line) is = absurd (let none = presence_duty_some all row line is in cc)

-- that the lines behind so many are blank
pub blanks_behind : (all : List Piece) (read : ℕ) → only_blanks all (read + 1) ≡ first (map blank_row (drop read all))
unfolding only_blanks
blanks_behind all read = let e : read + 1 - 1 ≡ read = omega arith in rw e refl
