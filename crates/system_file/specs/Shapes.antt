-- Shapes that only the code stands on: numbers of 64 bits as numbers of 32 bits, a greater one as the greatest. As a
-- reflectance or as a share that one is past its limit as well. No public clause cites these.
use Rattle.std.specs.Prelude.{ℕ, min, map}
use Rattle.flux_system.specs.System.{FluxSystem}

-- a number, or the greatest of 32 bits where it is greater
abbrev pub narrow_number : ℕ → ℕ
narrow_number number = min number 4294967295

-- the same system with all its reflectances and shares as numbers of 32 bits
abbrev pub narrow_system : FluxSystem → FluxSystem
narrow_system s = record { threshold = s.threshold; reflectance = map narrow_number s.reflectance; shares = map narrow_number s.shares }
