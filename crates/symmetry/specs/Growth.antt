-- A web while it grows, from angle 0 on. No contract of a public call speaks of it.
use Rattle.std.specs.Prelude.{◌≡◌, ℕ, List}
use Rattle.std.specs.List.{flat_map}
use Rattle.photo_web.specs.declared.photometry.SymKind.{SymKind}
use Rattle.photo_web.specs.Web.{row_values}
use Rattle.symmetry.specs.Images.{planes_below, stored_place}

-- the planes of the web below an angle and their values are there
pub record IsGrown (angle : ℕ) (sym : SymKind) (stored rows : List ℕ) (width : ℕ) (planes values : List ℕ) : Type 0 where
  pub planes_are : planes ≡ planes_below angle sym stored
  pub values_are : values ≡ flat_map (λ a. row_values width rows (stored_place sym stored a)) (planes_below angle sym stored)
