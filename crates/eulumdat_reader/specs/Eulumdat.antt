-- What an EULUMDAT text stands for: the tests of its lines in their order, and the photometry of a text that passes them
-- all. The limits, and where a number is cut, are this project's own.
use Rattle.std.specs.Prelude.{ℕ, ◌+◌, ◌*◌, Result, List, [], ◌∷◌}
use Rattle.duties.specs.Duties.{Duty, unless, first, each, judged}
use Rattle.lux_lines.specs.Places.{Piece}
use Rattle.lux_lines.specs.Lines.{lines}
use Rattle.lux_lines.specs.Ends.{body}
use Rattle.photo_web.specs.declared.photometry.PhotoKind.TheVariants.{Ldt}
use Rattle.photo_web.specs.declared.photometry.SymKind.{SymKind}
use Rattle.photo_web.specs.declared.photometry.Photometry.{Photometry}
use Rattle.symmetry.specs.Images.{expansion}
use Rattle.eulumdat_reader.specs.declared.faults.LdtFault.{LdtFault}
use Rattle.eulumdat_reader.specs.declared.faults.LdtFault.TheVariants.{Span}
use Rattle.eulumdat_reader.specs.Rows.{only_blanks}
use Rattle.eulumdat_reader.specs.Heads.{head_duties, symmetry, planes, gammas, value_scale}
use Rattle.eulumdat_reader.specs.declared.gaps.Gap.{Gap}
use Rattle.eulumdat_reader.specs.Planes.{unread_gap, stored_count, is_span, stored_planes, stored_rows}
use Rattle.eulumdat_reader.specs.Angles.{angle_duty, angles}
use Rattle.eulumdat_reader.specs.Intensities.{value_duty, intensities}

-- What lines 1 to 42 say of the lists behind them: the symmetry, the numbers of C planes and of gamma angles, and what the
-- values are multiplied by.
pub record Layout : Type 0 where
  pub sym : SymKind
  pub planes : ℕ
  pub gammas : ℕ
  pub scale : ℕ

unfoldable pub layout : List Piece → Layout
layout all = record {
  sym = symmetry all;
  planes = planes all;
  gammas = gammas all;
  scale = value_scale all;
}

-- every line of the gamma angles is read
abbrev pub no_gap : Gap
no_gap = record { from = 0; to = 0 }

-- the C angles that are read
abbrev pub c_angles : List Piece → Layout → List ℕ
c_angles all l = angles (unread_gap l.sym l.planes) all 43 l.planes

-- the gamma angles
abbrev pub gamma_angles : List Piece → Layout → List ℕ
gamma_angles all l = angles no_gap all (43 + l.planes) l.gammas

-- how many values there are: one for each stored plane and each gamma angle
abbrev pub value_count : Layout → ℕ
value_count l = stored_count l.sym l.planes * l.gammas

-- the intensities, plane by plane in the order of lines
abbrev pub values : List Piece → Layout → List ℕ
values all l = intensities l.scale all (43 + l.planes + l.gammas) (value_count l)

-- the tests of the C angles, and of their span
unfoldable pub c_angle_duties : List Piece → Layout → List (Duty LdtFault)
c_angle_duties all l =
    each l.planes (angle_duty 0 360000 (unread_gap l.sym l.planes) all 43)
    ∷ unless (is_span l.sym l.planes (c_angles all l)) Span
    ∷ []

-- the tests of the lists: the C angles, the gamma angles, the values, and that only blank lines follow
unfoldable pub list_duties : List Piece → Layout → List (Duty LdtFault)
list_duties all l =
    first (c_angle_duties all l)
    ∷ each l.gammas (angle_duty 1 180000 no_gap all (43 + l.planes))
    ∷ each (value_count l) (value_duty l.scale all (43 + l.planes + l.gammas))
    ∷ only_blanks all (43 + l.planes + l.gammas + value_count l)
    ∷ []

-- the photometry of the lists: its web is the expansion of the stored planes
unfoldable pub photometry : List Piece → Layout → Photometry
photometry all l = record {
  kind = Ldt;
  sym = l.sym;
  web = expansion l.sym (stored_planes l.sym l.planes (c_angles all l)) (gamma_angles all l) (stored_rows l.sym l.planes l.gammas (values all l));
}

-- the tests of all lines
unfoldable pub row_duties : List Piece → List (Duty LdtFault)
row_duties all =
    first (head_duties all)
    ∷ first (list_duties all (layout all))
    ∷ []

-- the photometry of a text, or its refusal
unfoldable pub photometry_of : List ℕ → Result Photometry LdtFault
photometry_of text = judged (row_duties (lines text)) (photometry (lines text) (layout (lines text)))

-- the same for a file, of which what ends it isn't read
abbrev pub ldt_of : List ℕ → Result Photometry LdtFault
ldt_of text = photometry_of (body text)
