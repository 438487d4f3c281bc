-- The intensities that the values of a photometry file stand for, in microcandela. A format has a most for its values, and
-- a factor for all of them, which is counted in units: so many of them are 1.
use Rattle.std.specs.Prelude.{ℕ, ◌*◌, ◌/◌, ◌^◌, ◌&&◌, not, nat_le, Bool, [], ◌∷◌}
use Rattle.duties.specs.Duties.{Duty, unless, first}
use Rattle.lux_num.specs.declared.decimal.Decimal.{Decimal}
use Rattle.lux_num.specs.Scaled.{cut_value, is_negative, is_limited}

-- the intensity of a value: in billionths it is cut, times the factor it is cut once more
abbrev pub intensity_of : ℕ → ℕ → Decimal → ℕ
intensity_of units factor value = cut_value value 9 * factor / (1000 * units)

-- a value is from 0 to the most, and its intensity is at most 10^15 microcandela
abbrev pub is_intensity : ℕ → ℕ → ℕ → Decimal → Bool
is_intensity most units factor value = is_limited most value && nat_le (intensity_of units factor value) (10 ^ 15)

-- a value is not negative, and not too bright: the tests in their order, each with its fault
unfoldable pub intensity_duty : {F : Type 0} → ℕ → ℕ → ℕ → F → F → Decimal → Duty F
intensity_duty most units factor negative too_bright value = first (
    unless (not (is_negative value)) negative
    ∷ unless (is_intensity most units factor value) too_bright
    ∷ [])
