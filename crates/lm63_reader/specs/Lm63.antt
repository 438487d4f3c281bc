-- What an LM-63 text stands for: the tests of the format in their order, and the photometry of a text that passes
-- them all. The limits, and where a number is cut, are this project's own.
use Rattle.std.specs.Prelude.{ℕ, ◌+◌, ◌*◌, Bool, false, if◌then◌else◌, None, Result, List, [], ◌∷◌, is_some, unwrap_or}
use Rattle.duties.specs.Duties.{Duty, unless, first, each, judged}
use Rattle.lux_lines.specs.Places.{Piece}
use Rattle.lux_lines.specs.Ends.{body}
use Rattle.photo_web.specs.declared.photometry.PhotoKind.TheVariants.{Lm63}
use Rattle.photo_web.specs.declared.photometry.SymKind.{SymKind}
use Rattle.photo_web.specs.declared.photometry.SymKind.TheVariants.{Axis}
use Rattle.photo_web.specs.declared.photometry.Photometry.{Photometry}
use Rattle.symmetry.specs.Images.{expansion}
use Rattle.lm63_reader.specs.declared.faults.LmFault.{LmFault}
use Rattle.lm63_reader.specs.declared.faults.LmFault.TheVariants.{HorizontalSpan}
use Rattle.lm63_reader.specs.Front.{front_duties, tilt_inclusion, tokens_behind}
use Rattle.lm63_reader.specs.Fields.{no_token}
use Rattle.lm63_reader.specs.Heads.{tilt_duties, tilt_size, head_duties, verticals, horizontals, factor}
use Rattle.lm63_reader.specs.Angles.{angle_duty, angles, span_symmetry}
use Rattle.lm63_reader.specs.Intensities.{value_duty, intensities}

-- Behind the thirteen fields stand the vertical angles, the horizontal angles, and a row of values for each horizontal angle:
-- where they begin, how many angles there are, and the factor of the values in billionths.
pub record Layout : Type 0 where
  pub start : ℕ
  pub verticals : ℕ
  pub horizontals : ℕ
  pub factor : ℕ

-- what the thirteen fields that begin at a place say of it
unfoldable pub layout : List Piece → ℕ → Layout
layout all place = record {
  start = place + 13;
  verticals = verticals all place;
  horizontals = horizontals all place;
  factor = factor all place;
}

-- the vertical angles
abbrev pub gammas : List Piece → Layout → List ℕ
gammas all l = angles all l.start l.verticals

-- the horizontal angles, which are those of the stored planes
abbrev pub planes : List Piece → Layout → List ℕ
planes all l = angles all (l.start + l.verticals) l.horizontals

-- the intensities, plane by plane
abbrev pub rows : List Piece → Layout → List ℕ
rows all l = intensities l.factor all (l.start + l.verticals + l.horizontals) (l.horizontals * l.verticals)

-- the symmetry of the stored planes; Axis where they have none
abbrev pub symmetry : List Piece → Layout → SymKind
symmetry all l = unwrap_or (span_symmetry (planes all l)) Axis

-- the tests of the lists: the angles, their span, the values, and that no token stands behind them
unfoldable pub list_duties : List Piece → Layout → List (Duty LmFault)
list_duties all l =
    each l.verticals (angle_duty 0 180000 all l.start)
    ∷ each l.horizontals (angle_duty 1 360000 all (l.start + l.verticals))
    ∷ unless (is_some (span_symmetry (planes all l))) HorizontalSpan
    ∷ each (l.horizontals * l.verticals) (value_duty l.factor all (l.start + l.verticals + l.horizontals))
    ∷ no_token all (l.start + l.verticals + l.horizontals + l.horizontals * l.verticals)
    ∷ []

-- the photometry of the lists: its web is the expansion of the stored planes
unfoldable pub photometry : List Piece → Layout → Photometry
photometry all l = record {
  kind = Lm63;
  sym = symmetry all l;
  web = expansion (symmetry all l) (planes all l) (gammas all l) (rows all l);
}

-- where the thirteen fields begin: behind an included tilt
abbrev pub head_place : Bool → List Piece → ℕ
head_place included all = if included then tilt_size all 0 else 0

-- the tests of the numbers behind the TILT line
unfoldable pub token_duties : Bool → List Piece → List (Duty LmFault)
token_duties included all =
    (if included then first (tilt_duties all 0) else None)
    ∷ first (head_duties all (head_place included all))
    ∷ first (list_duties all (layout all (head_place included all)))
    ∷ []

-- the tilt of a text is included
abbrev pub is_included : List ℕ → Bool
is_included text = unwrap_or (tilt_inclusion text) false

-- the tests of a text, in their order: its lines up to the TILT line, and the numbers behind it
unfoldable pub text_duties : List ℕ → List (Duty LmFault)
text_duties text =
    first (front_duties text)
    ∷ first (token_duties (is_included text) (tokens_behind text))
    ∷ []

-- the photometry of a text, or its refusal
unfoldable pub photometry_of : List ℕ → Result Photometry LmFault
photometry_of text =
    judged (text_duties text) (photometry (tokens_behind text) (layout (tokens_behind text) (head_place (is_included text) (tokens_behind text))))

-- the same for a file, of which what ends it isn't read
abbrev pub lm_of : List ℕ → Result Photometry LmFault
lm_of text = photometry_of (body text)
