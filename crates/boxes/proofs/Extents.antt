-- What a box takes up of each axis is cut, and ends within the longest room.
use Rattle.std.proofs.Common.{ℕ, ◌≤◌, arith}
use Rattle.room_patches.specs.declared.box_spec.BoxSpec.{BoxSpec}
use Rattle.room_patches.specs.declared.spec.RoomSpec.{RoomSpec}
use Rattle.room_patches.specs.Validity.{IsRoom}
use Rattle.boxes.specs.declared.face.Face.{Face}
use Rattle.boxes.specs.declared.face.Face.TheVariants.{Bottom, Top, Left, Right, Front, Back}
use Rattle.boxes.specs.Boxes.{extent_of, across, upward}
use Rattle.boxes.specs.Validity.{IsStretch, IsCount, IsBox}
use Rattle.boxes.specs.Shapes.{IsExtent, HasExtents}

extent-valid : (from to parts : ℕ) → IsStretch from to 100000 → IsCount parts → IsExtent (extent_of from to parts)
extent-valid from to parts stretch count =
    let some = stretch.some in
    let within = stretch.within in
    record { cut = record { short = omega arith; some = count.some; few = count.few }; near = omega arith }

module _ (box : BoxSpec) (valid : HasExtents box) where
  pub across_valid : (face : Face) → IsExtent (across box face)
  across_valid Bottom = extent-valid box.x0 box.x1 box.nx valid.x valid.nx
  across_valid Top = extent-valid box.x0 box.x1 box.nx valid.x valid.nx
  across_valid Left = extent-valid box.y0 box.y1 box.ny valid.y valid.ny
  across_valid Right = extent-valid box.y0 box.y1 box.ny valid.y valid.ny
  across_valid Front = extent-valid box.x0 box.x1 box.nx valid.x valid.nx
  across_valid Back = extent-valid box.x0 box.x1 box.nx valid.x valid.nx

  pub upward_valid : (face : Face) → IsExtent (upward box face)
  upward_valid Bottom = extent-valid box.y0 box.y1 box.ny valid.y valid.ny
  upward_valid Top = extent-valid box.y0 box.y1 box.ny valid.y valid.ny
  upward_valid Left = extent-valid box.z0 box.z1 box.nz valid.z valid.nz
  upward_valid Right = extent-valid box.z0 box.z1 box.nz valid.z valid.nz
  upward_valid Front = extent-valid box.z0 box.z1 box.nz valid.z valid.nz
  upward_valid Back = extent-valid box.z0 box.z1 box.nz valid.z valid.nz

-- a box in a room ends within the longest room
pub extents_in_room : (room : RoomSpec) (box : BoxSpec) → IsRoom room → IsBox room box → HasExtents box
extents_in_room room box valid is = record {
  x = near-stretch box.x0 box.x1 room.width valid.width.short is.x;
  y = near-stretch box.y0 box.y1 room.depth valid.depth.short is.y;
  z = near-stretch box.z0 box.z1 room.height valid.height.short is.z;
  nx = is.nx;
  ny = is.ny;
  nz = is.nz;
}
  where
    near-stretch : (from to whole : ℕ) → whole ≤ 100000 → IsStretch from to whole → IsStretch from to 100000
    near-stretch from to whole short stretch = let within = stretch.within in record { some = stretch.some; within = omega arith }
