-- The values of a list, in candela for 1000 lumens, and their intensities: the scale of all values is thousandths of a lumen
-- times millionths, so that 1000 lumens times 1 are 10^12.
use Rattle.std.specs.Prelude.{ℕ, ◌+◌, ◌^◌, List, map}
use Rattle.std.specs.List.{range_with_len}
use Rattle.duties.specs.Duties.{Duty}
use Rattle.lux_lines.specs.Places.{Piece}
use Rattle.photo_numbers.specs.Intensities.{intensity_of, intensity_duty}
use Rattle.eulumdat_reader.specs.declared.faults.LdtFault.{LdtFault}
use Rattle.eulumdat_reader.specs.declared.faults.LdtFault.TheVariants.{NegativeIntensity, TooBright}
use Rattle.eulumdat_reader.specs.Rows.{number_at, field}

-- the value at a place of a list that begins on a line is not negative, and not too bright: it is at most 10^7
unfoldable pub value_duty : ℕ → List Piece → ℕ → ℕ → Duty LdtFault
value_duty scale all start at = field all (start + at) (intensity_duty (10 ^ 7) (10 ^ 12) scale (NegativeIntensity at) (TooBright at))

-- the intensities of a list
unfoldable pub intensities : ℕ → List Piece → ℕ → ℕ → List ℕ
intensities scale all start count = map (λ at. intensity_of (10 ^ 12) scale (number_at all (start + at))) (range_with_len 0 count)
