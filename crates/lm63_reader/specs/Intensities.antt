-- The values of a list, in candela, and their intensities: the factor of all values is in billionths.
use Rattle.std.specs.Prelude.{ℕ, ◌+◌, ◌^◌, List, map}
use Rattle.std.specs.List.{range_with_len}
use Rattle.duties.specs.Duties.{Duty}
use Rattle.lux_lines.specs.Places.{Piece}
use Rattle.photo_numbers.specs.Intensities.{intensity_of, intensity_duty}
use Rattle.lm63_reader.specs.declared.faults.LmFault.{LmFault}
use Rattle.lm63_reader.specs.declared.faults.LmFault.TheVariants.{NegativeIntensity, TooBright}
use Rattle.lm63_reader.specs.Fields.{number_at, field}

-- the value at a place of a list that begins at another place is not negative, and not too bright: it is at most 10^9
unfoldable pub value_duty : ℕ → List Piece → ℕ → ℕ → Duty LmFault
value_duty factor all start at = field all (start + at) (intensity_duty (10 ^ 9) (10 ^ 9) factor (NegativeIntensity at) (TooBright at))

-- the intensities of a list
unfoldable pub intensities : ℕ → List Piece → ℕ → ℕ → List ℕ
intensities factor all start count = map (λ at. intensity_of (10 ^ 9) factor (number_at all (start + at))) (range_with_len 0 count)
