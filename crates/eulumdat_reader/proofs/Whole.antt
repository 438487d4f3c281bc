-- The parts of a text's meaning.
use Rattle.std.proofs.Common.{◌≡◌, ◌≢◌, ℕ, ◌+◌, Bool, List, Option, Some, None, Result, Ok, Err, sym, ap, ◌∙◌}
use Rattle.std.specs.Prelude.{IfOk, IfErr}
use Rattle.duties.specs.Duties.{Answers, first, each, unless}
use Rattle.duties.proofs.Orders.{this_met, this_fails, last_decides, judged_ok, judged_err}
use Rattle.lux_lines.specs.Places.{Piece}
use Rattle.lux_lines.specs.Lines.{lines}
use Rattle.photo_web.specs.declared.photometry.Photometry.{Photometry}
use Rattle.eulumdat_reader.specs.declared.faults.LdtFault.{LdtFault}
use Rattle.eulumdat_reader.specs.declared.faults.LdtFault.TheVariants.{Memory, Span}
use Rattle.eulumdat_reader.specs.Rows.{only_blanks}
use Rattle.eulumdat_reader.specs.Planes.{unread_gap, is_span}
use Rattle.eulumdat_reader.specs.Angles.{angle_duty}
use Rattle.eulumdat_reader.specs.Intensities.{value_duty}
use Rattle.eulumdat_reader.specs.Heads.{symmetry, planes, gammas, value_scale}
use Rattle.eulumdat_reader.specs.Eulumdat.{Layout, layout, no_gap, c_angles, value_count, c_angle_duties, list_duties, row_duties, photometry, photometry_of}

-- what a head says is the layout
pub layout_is : (all : List Piece) (l : Layout) → l.sym ≡ symmetry all → l.planes ≡ planes all → l.gammas ≡ gammas all → l.scale ≡ value_scale all → l ≡ layout all
unfolding layout
layout_is all l s p g c = λ k. record { sym = s k; planes = p k; gammas = g k; scale = c k }

-- the tests of the lists, one after another
module _ (all : List Piece) (l : Layout) where
  pub angles_fail : (f : LdtFault) → each l.planes (angle_duty 0 360000 (unread_gap l.sym l.planes) all 43) ≡ Some f → first (c_angle_duties all l) ≡ Some f
  unfolding c_angle_duties
  angles_fail f h = this_fails _ _ _ h

  -- behind the C angles their span decides
  pub span_decides : each l.planes (angle_duty 0 360000 (unread_gap l.sym l.planes) all 43) ≡ None → (test : Bool) → is_span l.sym l.planes (c_angles all l) ≡ test → first (c_angle_duties all l) ≡ unless test Span
  unfolding c_angle_duties
  span_decides angles_met test h = this_met _ _ angles_met ∙ (last_decides (unless (is_span l.sym l.planes (c_angles all l)) Span) ∙ ap (λ (passes : Bool). unless passes Span) h)

  pub planes_fail : (f : LdtFault) → first (c_angle_duties all l) ≡ Some f → first (list_duties all l) ≡ Some f
  unfolding list_duties
  planes_fail f h = this_fails _ _ _ h

  module _ (planes_met : first (c_angle_duties all l) ≡ None) where
    pub gammas_fail : (f : LdtFault) → each l.gammas (angle_duty 1 180000 no_gap all (43 + l.planes)) ≡ Some f → first (list_duties all l) ≡ Some f
    unfolding list_duties
    gammas_fail f h = this_met _ _ planes_met ∙ this_fails _ _ _ h

    module _ (gammas_met : each l.gammas (angle_duty 1 180000 no_gap all (43 + l.planes)) ≡ None) where
      pub values_fail : (f : LdtFault) → each (value_count l) (value_duty l.scale all (43 + l.planes + l.gammas)) ≡ Some f → first (list_duties all l) ≡ Some f
      unfolding list_duties
      values_fail f h = this_met _ _ planes_met ∙ (this_met _ _ gammas_met ∙ this_fails _ _ _ h)

      -- behind the values the blank lines decide
      pub end_decides : each (value_count l) (value_duty l.scale all (43 + l.planes + l.gammas)) ≡ None → (end : Option LdtFault) → only_blanks all (43 + l.planes + l.gammas + value_count l) ≡ end → first (list_duties all l) ≡ end
      unfolding list_duties
      end_decides h end blank =
          this_met _ _ planes_met ∙ (this_met _ _ gammas_met ∙ (this_met _ _ h ∙ (last_decides (only_blanks all (43 + l.planes + l.gammas + value_count l)) ∙ blank)))

-- what is read of the lines is read of the text
module _ (text : List ℕ) where
  pub reading_ok : (r : Result Photometry LdtFault) → Answers Memory (first (row_duties (lines text))) r → IfOk r (λ p. p ≡ photometry (lines text) (layout (lines text))) → IfOk r (λ p. photometry_of text ≡ Ok p)
  unfolding photometry_of
  reading_ok (Ok p) answer value = judged_ok (row_duties (lines text)) (photometry (lines text) (layout (lines text))) answer ∙ ap (λ (q : Photometry). Ok q) (sym value)
  reading_ok (Err f) answer value = value

  pub reading_err : (r : Result Photometry LdtFault) → Answers Memory (first (row_duties (lines text))) r → IfErr r (λ f. f ≢ Memory → photometry_of text ≡ Err f)
  unfolding photometry_of
  reading_err (Ok p) answer = tt
  reading_err (Err f) answer = λ ne. judged_err (row_duties (lines text)) (photometry (lines text) (layout (lines text))) f (answer ne)
