-- Which places boxes hide from each other. Places are in half-millimetres and boxes in millimetres, so that a bound of a box counts twice.
-- A point of the segment between two places is named by how far it lies: num / den of the way. All is multiplied by den, and nothing divided.
use Rattle.std.specs.Prelude.{ℕ, ◌-◌, ◌*◌, ◌<◌, ◌≤◌, ℤ, pos, ◌+ℤ◌, ◌*ℤ◌, ◌<ℤ◌, List}
use Rattle.std.specs.List.{Any}
use Rattle.room_patches.specs.declared.box_spec.BoxSpec.{BoxSpec}
use Rattle.room_patches.specs.Places.{coordinate}

-- along one axis, den times the coordinate of the point
abbrev pub weighted : ℤ → ℤ → ℕ → ℕ → ℤ
weighted from to num den = pos (den - num) *ℤ from +ℤ pos num *ℤ to

-- along one axis, the point lies strictly between two faces of a box
pub record IsBetween (low high : ℕ) (from to : ℤ) (num den : ℕ) : Type 0 where
  pub above : pos (2 * low * den) <ℤ weighted from to num den
  pub below : weighted from to num den <ℤ pos (2 * high * den)

-- the point lies strictly inside a box
pub record IsInside (box : BoxSpec) (from to : List ℤ) (num den : ℕ) : Type 0 where
  pub x : IsBetween box.x0 box.x1 (coordinate from 0) (coordinate to 0) num den
  pub y : IsBetween box.y0 box.y1 (coordinate from 1) (coordinate to 1) num den
  pub z : IsBetween box.z0 box.z1 (coordinate from 2) (coordinate to 2) num den

-- a box hides two places from each other where some point of the segment between them, its ends included, lies strictly inside the box
pub record Hides (box : BoxSpec) (from to : List ℤ) : Type 0 where
  pub num : ℕ
  pub den : ℕ
  pub positive : 0 < den
  pub within : num ≤ den
  pub inside : IsInside box from to num den

-- one of the boxes hides the places
abbrev pub AreHidden : List BoxSpec → List ℤ → List ℤ → Type 0
AreHidden boxes from to = Any (λ box. Hides box from to) boxes
