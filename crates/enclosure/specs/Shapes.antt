-- Shapes that only the code stands on: fractions of what is kept at a patch, of which the greatest gives the end of an
-- interval for any spill. No public clause cites these.
use Rattle.std.specs.Prelude.{◌≡◌, ℕ, ◌*◌, ◌<◌}
use Rattle.std.specs.Int.{div_ceil}
use Rattle.flux_system.specs.System.{FluxSystem, patches}
use Rattle.enclosure.specs.declared.fraction.Fraction.{Fraction}
use Rattle.enclosure.specs.Interval.{greatest_below, rise_from}

-- so much of an amount, rounded up
abbrev pub part_of : Fraction → ℕ → ℕ
part_of f amount = div_ceil (f.parts * amount) f.whole

-- of whatever spills, the fraction is the greatest rise of patch j
pub record IsGreatest (s : FluxSystem) (j : ℕ) (f : Fraction) : Type 0 where
  pub whole : 0 < f.whole
  pub rises : (spill : ℕ) → part_of f spill ≡ greatest_below (patches s) (rise_from s spill j)
