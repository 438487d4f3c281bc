-- The photometry text: a web as lines. The format is this project's own.
use Rattle.std.specs.Prelude.{ℕ, ◌++◌, List, length, slice_index, codes}
use Rattle.std.specs.Fmt.{decimal}
use Rattle.std.specs.List.{flat_map, range_with_len}
use Rattle.photo_web.specs.Web.{PhotometricWeb, plane_values}
use Rattle.photo_web.specs.declared.photometry.PhotoKind.{PhotoKind}
use Rattle.photo_web.specs.declared.photometry.PhotoKind.TheVariants.{Lm63, Ldt}
use Rattle.photo_web.specs.declared.photometry.SymKind.{SymKind}
use Rattle.photo_web.specs.declared.photometry.SymKind.TheVariants.{Axis, Quadrant, Plane0, Plane90, Full}
use Rattle.photo_web.specs.declared.photometry.Photometry.{Photometry}

-- the word for a file's format
abbrev pub kind_word : PhotoKind → List ℕ
kind_word Lm63 = codes "lm63"
kind_word Ldt = codes "ldt"

-- the word for a symmetry
abbrev pub symmetry_word : SymKind → List ℕ
symmetry_word Axis = codes "axis"
symmetry_word Quadrant = codes "quadrant"
symmetry_word Plane0 = codes "plane0"
symmetry_word Plane90 = codes "plane90"
symmetry_word Full = codes "full"

-- a blank and its digits for each number
abbrev pub numbers_text : List ℕ → List ℕ
numbers_text numbers = flat_map (λ number. codes " " ++ decimal number) numbers

-- the line of a plane: its angle in millidegrees, and its values in microcandela
abbrev pub plane_line : PhotometricWeb → ℕ → List ℕ
plane_line web plane = codes "plane " ++ decimal (slice_index web.planes plane) ++ numbers_text (plane_values web plane) ++ codes "\n"

-- the lines before those of the planes
abbrev pub head_text : Photometry → List ℕ
head_text p =
    codes "photometry " ++ kind_word p.kind ++ codes "\nsymmetry " ++ symmetry_word p.sym ++ codes "\ngammas" ++ numbers_text p.web.gammas ++ codes "\n"

-- the whole text: its head, and a line for each plane of the web
abbrev pub photometry_text : Photometry → List ℕ
photometry_text p = head_text p ++ flat_map (plane_line p.web) (range_with_len 0 (length p.web.planes))
