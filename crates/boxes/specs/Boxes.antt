-- The patches of a box: its six faces, cut into rectangles. Their order is this project's own.
use Rattle.std.specs.Prelude.{ℕ, ◌+◌, ◌-◌, ◌*◌, ℤ, pos, Bool, true, false, List, [], ◌∷◌, map}
use Rattle.std.specs.List.{range_with_len, flat_map}
use Rattle.room_patches.specs.declared.box_spec.BoxSpec.{BoxSpec}
use Rattle.room_patches.specs.declared.patch.Patch.{Patch}
use Rattle.room_patches.specs.Cuts.{middle, part}
use Rattle.boxes.specs.declared.extent.Extent.{Extent}
use Rattle.boxes.specs.declared.face.Face.{Face}
use Rattle.boxes.specs.declared.face.Face.TheVariants.{Bottom, Top, Left, Right, Front, Back}

-- the faces, in the order of patches: at the least and the greatest z, then x, then y
abbrev pub faces : List Face
faces = Bottom ∷ Top ∷ Left ∷ Right ∷ Front ∷ Back ∷ []

-- the length between two places of an axis, cut into parts: each bound of the cut lies that far behind the first place
abbrev pub extent_of : ℕ → ℕ → ℕ → Extent
extent_of from to parts = record { start = from; cut = record { whole = to - from; parts = parts } }

-- the middle of part k in half-millimetres from the room's corner, which is the sum of its bounds
abbrev pub middle_of : Extent → ℕ → ℕ
middle_of extent k = 2 * extent.start + middle extent.cut k

-- what a box takes up of the three axes
abbrev pub along_x : BoxSpec → Extent
along_x box = extent_of box.x0 box.x1 box.nx

abbrev pub along_y : BoxSpec → Extent
along_y box = extent_of box.y0 box.y1 box.ny

abbrev pub along_z : BoxSpec → Extent
along_z box = extent_of box.z0 box.z1 box.nz

-- the extent along which a face's patches follow one another in a row
abbrev pub across : BoxSpec → Face → Extent
across box Bottom = along_x box
across box Top = along_x box
across box Left = along_y box
across box Right = along_y box
across box Front = along_x box
across box Back = along_x box

-- the extent along which a face's rows follow one another
abbrev pub upward : BoxSpec → Face → Extent
upward box Bottom = along_y box
upward box Top = along_y box
upward box Left = along_z box
upward box Right = along_z box
upward box Front = along_z box
upward box Back = along_z box

-- the place of a face that has these coordinates along its two axes
abbrev pub place_on : BoxSpec → Face → ℕ → ℕ → List ℤ
place_on box Bottom u v = pos u ∷ pos v ∷ pos (2 * box.z0) ∷ []
place_on box Top u v = pos u ∷ pos v ∷ pos (2 * box.z1) ∷ []
place_on box Left u v = pos (2 * box.x0) ∷ pos u ∷ pos v ∷ []
place_on box Right u v = pos (2 * box.x1) ∷ pos u ∷ pos v ∷ []
place_on box Front u v = pos u ∷ pos (2 * box.y0) ∷ pos v ∷ []
place_on box Back u v = pos u ∷ pos (2 * box.y1) ∷ pos v ∷ []

-- the axis that a face's normal follows: 0 is x, 1 is y, 2 is z
abbrev pub axis_of : Face → ℕ
axis_of Bottom = 2
axis_of Top = 2
axis_of Left = 0
axis_of Right = 0
axis_of Front = 1
axis_of Back = 1

-- whether the normal that points out of the box goes to greater coordinates
abbrev pub rises : Face → Bool
rises Bottom = false
rises Top = true
rises Left = false
rises Right = true
rises Front = false
rises Back = true

-- a face's patch at a column of a row
unfoldable pub patch_at : BoxSpec → Face → ℕ → ℕ → Patch
patch_at box face column row = record {
  centre = place_on box face (middle_of (across box face) column) (middle_of (upward box face) row);
  axis = axis_of face;
  rising = rises face;
  area = part (across box face).cut column * part (upward box face).cut row;
  reflectance = box.reflectance;
}

-- one row of a face
unfoldable pub patch_row : BoxSpec → Face → ℕ → List Patch
patch_row box face row = map (λ column. patch_at box face column row) (range_with_len 0 (across box face).cut.parts)

-- a face, row by row
unfoldable pub patches_of : BoxSpec → Face → List Patch
patches_of box face = flat_map (patch_row box face) (range_with_len 0 (upward box face).cut.parts)

-- all patches of a box, face by face
unfoldable pub box_patches : BoxSpec → List Patch
box_patches box = flat_map (patches_of box) faces
