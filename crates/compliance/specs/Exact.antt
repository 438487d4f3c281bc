-- Average and uniformity on a surface, the two notions of EN 12464-1, of exact values at its points. An exact value is a whole number
-- over a denominator that all points share, in nanolux.
use Rattle.std.specs.Prelude.{ℕ, ◌*◌, ◌<◌, ◌≤◌, ◌^◌, ◌==◌, min, if◌then◌else◌, nat_le, List, length, sum, unwrap_or}
use Rattle.std.specs.List.{reduce, AllZip}
use Rattle.compliance.specs.declared.verdicts.Verdict.{Verdict}
use Rattle.compliance.specs.declared.verdicts.Verdict.TheVariants.{Pass, Fail}

-- a fraction that isn't negative
pub record Fraction : Type 0 where
  pub top : ℕ
  pub bottom : ℕ

-- the value isn't below the first end, nor above the second
abbrev pub IsBetween : ℕ × ℕ → Fraction → Type 0
IsBetween ends value = (ends.0 * value.bottom ≤ value.top) × (value.top ≤ ends.1 * value.bottom)

-- there is one value for each point, between the ends of its interval
pub record LieWithin (points : List (ℕ × ℕ)) (values : List ℕ) (denominator : ℕ) : Type 0 where
  pub positive : 0 < denominator
  pub enclosed : AllZip (λ ends value. IsBetween ends (record { top = value; bottom = denominator })) points values

-- P holds of all exact values that lie within the intervals of the points
abbrev pub ForAllWithin : List (ℕ × ℕ) → (List ℕ → ℕ → Type 0) → Type 0
ForAllWithin points P = (values : List ℕ) (denominator : ℕ) → LieWithin points values denominator → P values denominator

-- the least of some numbers, 0 of none
abbrev pub least : List ℕ → ℕ
least numbers = unwrap_or (reduce min numbers) 0

-- the mean of the values, in nanolux
abbrev pub mean : List ℕ → ℕ → Fraction
mean values denominator = record { top = sum values; bottom = denominator * length values }

-- the average of the maintained illuminance, in millilux: of the mean, what a maintenance factor in per mille leaves; a millilux is 10^6 nanolux
abbrev pub exact_average : ℕ → List ℕ → ℕ → Fraction
exact_average maintenance values denominator = record {
  top = maintenance * (mean values denominator).top;
  bottom = 1000 * 10 ^ 6 * (mean values denominator).bottom;
}

-- the uniformity, in per mille: the least value over the mean, and 1000 where there is no light
abbrev pub exact_uniformity : List ℕ → ℕ → Fraction
exact_uniformity values denominator = if sum values == 0 then record { top = 1000; bottom = 1 } else record {
  top = 1000 * least values * (mean values denominator).bottom;
  bottom = denominator * (mean values denominator).top;
}

-- an exact value passes where it reaches the limit, and fails otherwise
abbrev pub exact_verdict : ℕ → Fraction → Verdict
exact_verdict limit value = if nat_le (limit * value.bottom) value.top then Pass else Fail
