-- The tests of the lines up to the TILT line.
use Rattle.std.proofs.Common.{◌≡◌, ℕ, Bool, List, Option, Some, None, drop, refl, sym, ap, ◌∙◌}
use Rattle.std.specs.Prelude.{is_some, find}
use Rattle.duties.specs.Duties.{unless, first}
use Rattle.duties.proofs.Orders.{this_met, this_fails, none_left, unless_holds, unless_fails}
use Rattle.lux_lines.specs.Places.{Piece}
use Rattle.lux_lines.specs.Lines.{lines, line_text}
use Rattle.lux_lines.specs.Walks.{LinesRead}
use Rattle.lm63_reader.specs.declared.faults.LmFault.TheVariants.{Header, Tilt, TiltFile}
use Rattle.lm63_reader.specs.Front.{is_header, is_tilt, tilt_line, inclusion, tilt_inclusion, front_duties}

module _ (text : List ℕ) where
  pub tilt_fails : unless (is_header (line_text text 0)) Header ≡ None → tilt_line text ≡ None → first (front_duties text) ≡ Some Tilt
  unfolding front_duties
  tilt_fails header none = this_met _ _ header ∙ this_fails _ _ _ (unless_fails _ _ (ap is_some none))

  pub inclusion_at : (line : Piece) → tilt_line text ≡ Some line → tilt_inclusion text ≡ inclusion line.text
  unfolding tilt_inclusion
  inclusion_at line h = rw h refl

  pub inclusion_fails : (line : Piece) → unless (is_header (line_text text 0)) Header ≡ None → tilt_line text ≡ Some line → inclusion line.text ≡ None → first (front_duties text) ≡ Some TiltFile
  unfolding front_duties
  inclusion_fails line header tilt none =
      this_met _ _ header ∙ (this_met _ _ (unless_holds _ _ (ap is_some tilt)) ∙ this_fails _ _ _ (unless_fails _ _ (ap is_some (inclusion_at line tilt ∙ none))))

  pub front_met : (line : Piece) (included : Bool) → unless (is_header (line_text text 0)) Header ≡ None → tilt_line text ≡ Some line → inclusion line.text ≡ Some included → first (front_duties text) ≡ None
  unfolding front_duties
  front_met line included header tilt some =
      this_met _ _ header ∙ (this_met _ _ (unless_holds _ _ (ap is_some tilt)) ∙ (this_met _ _ (unless_holds _ _ (ap is_some (inclusion_at line tilt ∙ some))) ∙ none_left))

  -- what is found behind the first line is the TILT line
  pub tilt_found : (source : LinesRead) (found : Option Piece) → source.text ≡ text → source.read ≡ 1 → found ≡ find is_tilt (drop source.read (lines source.text)) → tilt_line text ≡ found
  unfolding tilt_line
  tilt_found source found same one is = sym (is ∙ (λ k. find is_tilt (drop (one k) (lines (same k)))))
