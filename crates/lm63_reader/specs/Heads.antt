-- The numbers before the angles: with an included tilt its numbers, and then thirteen fields, numbered from 1.
use Rattle.std.specs.Prelude.{ℕ, ◌+◌, ◌*◌, ◌/◌, ◌^◌, List, [], ◌∷◌}
use Rattle.duties.specs.Duties.{Duty, unless, first}
use Rattle.lux_lines.specs.Places.{Piece}
use Rattle.lux_num.specs.Scaled.{cut_value, is_limited}
use Rattle.lm63_reader.specs.declared.faults.LmFault.{LmFault}
use Rattle.lm63_reader.specs.declared.faults.LmFault.TheVariants.{PhotometricType, Units, Count, Factor}
use Rattle.photo_numbers.specs.Numbers.{count_of, is_whole_within}
use Rattle.lm63_reader.specs.Fields.{number_at, field, any_numbers}

-- Included tilt: lamp geometry, number of pairs, angles and factors. They are read and not applied.
unfoldable pub tilt_duties : List Piece → ℕ → List (Duty LmFault)
tilt_duties all place =
    any_numbers all place 1
    ∷ field all (place + 1) (λ x. unless (is_whole_within 1 721 x) (Count 0))
    ∷ any_numbers all (place + 2) (2 * count_of (number_at all (place + 1)))
    ∷ []

-- how many numbers an included tilt has
abbrev pub tilt_size : List Piece → ℕ → ℕ
tilt_size all place = 2 + 2 * count_of (number_at all (place + 1))

-- Fields 1 to 3: number of lamps, lumens per lamp, candela multiplier.
unfoldable pub lamp_duties : List Piece → ℕ → List (Duty LmFault)
lamp_duties all place =
    any_numbers all place 2
    ∷ field all (place + 2) (λ x. unless (is_limited 100000 x) (Factor 3))
    ∷ []

-- Fields 4 to 7: numbers of vertical and of horizontal angles, photometric type (1 is type C), units type (feet or metres).
unfoldable pub count_duties : List Piece → ℕ → List (Duty LmFault)
count_duties all place =
    field all place (λ x. unless (is_whole_within 2 721 x) (Count 4))
    ∷ field all (place + 1) (λ x. unless (is_whole_within 1 361 x) (Count 5))
    ∷ field all (place + 2) (λ x. unless (is_whole_within 1 1 x) PhotometricType)
    ∷ field all (place + 3) (λ x. unless (is_whole_within 1 2 x) Units)
    ∷ []

-- Fields 8 to 13: width, length, height, ballast factor, future use, input watts.
unfoldable pub factor_duties : List Piece → ℕ → List (Duty LmFault)
factor_duties all place =
    any_numbers all place 3
    ∷ field all (place + 3) (λ x. unless (is_limited 1000 x) (Factor 11))
    ∷ field all (place + 4) (λ x. unless (is_limited 1000 x) (Factor 12))
    ∷ any_numbers all (place + 5) 1
    ∷ []

-- all thirteen
unfoldable pub head_duties : List Piece → ℕ → List (Duty LmFault)
head_duties all place =
    first (lamp_duties all place)
    ∷ first (count_duties all (place + 3))
    ∷ first (factor_duties all (place + 7))
    ∷ []

-- the number of vertical angles that they say
abbrev pub verticals : List Piece → ℕ → ℕ
verticals all place = count_of (number_at all (place + 3))

-- the number of horizontal angles that they say
abbrev pub horizontals : List Piece → ℕ → ℕ
horizontals all place = count_of (number_at all (place + 4))

-- three factors as one: each cut to nine decimals, and their product as well
abbrev pub factor_product : ℕ → ℕ → ℕ → ℕ
factor_product multiplier ballast future = multiplier * ballast * future / 10 ^ 18

-- the factor of all values in billionths: of candela multiplier, ballast factor and future use (the last by this project's own rule)
abbrev pub factor : List Piece → ℕ → ℕ
factor all place = factor_product (cut_value (number_at all (place + 2)) 9) (cut_value (number_at all (place + 10)) 9) (cut_value (number_at all (place + 11)) 9)
