-- Shapes that only the code stands on. No public clause cites these.
use Rattle.std.specs.Prelude.{◌≡◌, ℤ, List}
use Rattle.grids.specs.declared.spec.GridSpec.{GridSpec}
use Rattle.grids.specs.Grids.{points}
use Rattle.grids.specs.Validity.{IsGrid}

-- what a valid grid was asked for by, beside its points
pub record IsGridWithPoints (grid : GridSpec) (all_points : List (List ℤ)) : Type 0 where
  pub valid : IsGrid grid
  pub all : all_points ≡ points grid
