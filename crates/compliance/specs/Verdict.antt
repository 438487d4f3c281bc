-- What is published of a check: the intervals of its average and uniformity, and its verdicts. The rule for intervals is this project's own.
use Rattle.std.specs.Prelude.{◌≡◌, ℕ, ◌*◌, ◌/◌, ◌<◌, ◌≤◌, ◌^◌, ◌==◌, ◌⊎◌, ◌↔◌, min, if◌then◌else◌, nat_lt, nat_le, List, length, map, sum, All}
use Rattle.std.specs.Int.{div_ceil}
use Rattle.compliance.specs.declared.checks.CheckSpec.{CheckSpec}
use Rattle.compliance.specs.declared.verdicts.Verdict.{Verdict}
use Rattle.compliance.specs.declared.verdicts.Verdict.TheVariants.{Pass, Fail, Undecided}
use Rattle.compliance.specs.Exact.{Fraction, IsBetween, ForAllWithin, least, exact_verdict}

-- the numbers by which a check judges are in their ranges
pub record HasLimits (check : CheckSpec) : Type 0 where
  pub maintained : 1 ≤ check.maintenance
  pub maintenance : check.maintenance ≤ 1000
  pub average : check.average ≤ 100000
  pub uniformity : check.uniformity ≤ 1000

-- the intervals of points that can be judged: 1 to 1,024, each with its low end at most its high end, and that at most 10^30 nanolux
pub record AreIntervals (points : List (ℕ × ℕ)) : Type 0 where
  pub some : 1 ≤ length points
  pub few : length points ≤ 1024
  pub ordered : All (λ ends. ends.0 ≤ ends.1) points
  pub bounded : All (λ ends. ends.1 ≤ 10 ^ 30) points

-- the low ends of the points
abbrev pub lows : List (ℕ × ℕ) → List ℕ
lows points = map (λ ends. ends.0) points

-- the high ends of the points
abbrev pub highs : List (ℕ × ℕ) → List ℕ
highs points = map (λ ends. ends.1) points

-- the ends of the average, in millilux: the mean low end rounded down and the mean high end rounded up, at a maintenance factor in per mille
abbrev pub average_ends : ℕ → List (ℕ × ℕ) → ℕ × ℕ
average_ends maintenance points =
    (sum (lows points) * maintenance / (length points * 10 ^ 9), div_ceil (sum (highs points) * maintenance) (length points * 10 ^ 9))

-- the low end of the uniformity, in per mille: the least low end over the mean high end, rounded down, and 1000 where no light can be
abbrev pub uniformity_low : List (ℕ × ℕ) → ℕ
uniformity_low points = if sum (highs points) == 0 then 1000 else 1000 * least (lows points) * length points / sum (highs points)

-- the high end: the least high end over the mean low end, rounded up, but at most 1000, and 1000 where no light need be
abbrev pub uniformity_high : List (ℕ × ℕ) → ℕ
uniformity_high points = if sum (lows points) == 0 then 1000 else min 1000 (div_ceil (1000 * least (highs points) * length points) (sum (lows points)))

-- the ends of the uniformity
abbrev pub uniformity_ends : List (ℕ × ℕ) → ℕ × ℕ
uniformity_ends points = (uniformity_low points, uniformity_high points)

-- what the ends of a value tell: it passes where the low end reaches the limit, fails where the high end is below it, and is open otherwise
abbrev pub published_verdict : ℕ → ℕ × ℕ → Verdict
published_verdict limit ends = if nat_le limit ends.0 then Pass else if nat_lt ends.1 limit then Fail else Undecided

-- A published interval and verdict stand for what is exact, whatever the exact values at the points are: the interval encloses the exact value,
-- a verdict that isn't open is the exact one, and it is open just where the limit is above the low end and not above the high end.
pub record IsJudged (points : List (ℕ × ℕ)) (limit : ℕ) (exact : List ℕ → ℕ → Fraction) (ends : ℕ × ℕ) (verdict : Verdict) : Type 0 where
  pub encloses : ForAllWithin points (λ values denominator. IsBetween ends (exact values denominator))
  pub decides : ForAllWithin points (λ values denominator. (verdict ≡ Undecided) ⊎ (verdict ≡ exact_verdict limit (exact values denominator)))
  pub open_where : (verdict ≡ Undecided) ↔ ((ends.0 < limit) × (limit ≤ ends.1))
