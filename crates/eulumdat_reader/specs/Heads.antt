-- Lines 1 to 42, in their order.
use Rattle.std.specs.Prelude.{ℕ, ◌-◌, ◌*◌, ◌%◌, ◌^◌, ◌==◌, ◌&&◌, min, Bool, List, [], ◌∷◌}
use Rattle.duties.specs.Duties.{Duty, unless, first}
use Rattle.lux_lines.specs.Places.{Piece}
use Rattle.lux_num.specs.declared.decimal.Decimal.{Decimal}
use Rattle.lux_num.specs.Scaled.{cut_value, is_limited}
use Rattle.photo_web.specs.declared.photometry.SymKind.{SymKind}
use Rattle.eulumdat_reader.specs.declared.faults.LdtFault.{LdtFault}
use Rattle.eulumdat_reader.specs.declared.faults.LdtFault.TheVariants.{Symmetry, PlaneCount, GammaCount, Factor, LampSets}
use Rattle.photo_numbers.specs.Numbers.{count_of, is_whole_within}
use Rattle.eulumdat_reader.specs.Rows.{number_at, field, any_rows}
use Rattle.eulumdat_reader.specs.Planes.{symmetry_of, divisor}

-- the symmetry that a text names
abbrev pub symmetry : List Piece → SymKind
symmetry all = symmetry_of (count_of (number_at all 3))

-- 1 to 360 C planes, of which a symmetry can be
abbrev pub is_plane_count : SymKind → Decimal → Bool
is_plane_count sym number = is_whole_within 1 360 number && count_of number % divisor sym == 0

-- Lines 1 to 6: company, type indicator, symmetry indicator, number of C planes, their distance, number of gamma angles.
unfoldable pub count_duties : List Piece → List (Duty LdtFault)
count_duties all =
    any_rows all 1 2
    ∷ field all 3 (λ x. unless (is_whole_within 0 4 x) Symmetry)
    ∷ field all 4 (λ x. unless (is_plane_count (symmetry all) x) PlaneCount)
    ∷ any_rows all 5 1
    ∷ field all 6 (λ x. unless (is_whole_within 2 721 x) GammaCount)
    ∷ []

-- a number without its sign, cut to a whole number, at most the greatest of 64 bits
abbrev pub set_count : Decimal → ℕ
set_count number = min (cut_value number 0) (2 ^ 64 - 1)

-- Lines 7 to 26: distance of the gamma angles, names and date (8 to 12), sizes (13 to 21), downward flux fraction, light output
-- ratio, conversion factor, tilt, number of lamp sets.
unfoldable pub factor_duties : List Piece → List (Duty LdtFault)
factor_duties all =
    any_rows all 7 17
    ∷ field all 24 (λ x. unless (is_limited 1000 x) (Factor 24))
    ∷ any_rows all 25 1
    ∷ field all 26 (λ x. unless (is_whole_within 1 1 x) (LampSets (set_count x)))
    ∷ []

-- Lines 27 to 42: number of lamps, their type, total flux in lumens, colour appearance, colour rendering, watts, and ten direct
-- ratios (33 to 42).
unfoldable pub flux_duties : List Piece → List (Duty LdtFault)
flux_duties all =
    any_rows all 27 2
    ∷ field all 29 (λ x. unless (is_limited 100000000 x) (Factor 29))
    ∷ any_rows all 30 13
    ∷ []

-- all of them
unfoldable pub head_duties : List Piece → List (Duty LdtFault)
head_duties all =
    first (count_duties all)
    ∷ first (factor_duties all)
    ∷ first (flux_duties all)
    ∷ []

-- the number of C planes
abbrev pub planes : List Piece → ℕ
planes all = count_of (number_at all 4)

-- the number of gamma angles
abbrev pub gammas : List Piece → ℕ
gammas all = count_of (number_at all 6)

-- what the values are multiplied by: the flux in thousandths of a lumen times the conversion factor in millionths (that the
-- factor multiplies is this project's own rule)
abbrev pub value_scale : List Piece → ℕ
value_scale all = cut_value (number_at all 29) 3 * cut_value (number_at all 24) 6
