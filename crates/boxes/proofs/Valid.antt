-- Each patch of a box in a valid room is one: its centre is a place, and its area and reflectance are within their limits.
use Rattle.std.proofs.Common.{◌≡◌, ℕ, ◌+◌, ◌<◌, ◌≤◌, pos, List, [], ◌∷◌, get_or, refl, ◌∙◌, arith}
use Rattle.std.specs.Prelude.{All}
use Rattle.std.specs.List.{range_with_len, flat_map}
use Rattle.std.proofs.lemmas.Int.{ints}
use Rattle.std.proofs.lemmas.Nat.{mul-le}
use Rattle.std.proofs.lemmas.List.FromFn.{length-range_with_len, get_or-range_with_len}
use Rattle.std.proofs.lemmas.List.Elements.{All-nil, All-append, All-head, All-tail, All-map, All-weaker}
use Rattle.room_patches.specs.declared.box_spec.BoxSpec.{BoxSpec}
use Rattle.room_patches.specs.declared.spec.RoomSpec.{RoomSpec}
use Rattle.room_patches.specs.Places.{IsCoordinate, IsPlace}
use Rattle.room_patches.specs.Rooms.{Room}
use Rattle.room_patches.specs.Patches.{IsPatch, patches as patches_of_room}
use Rattle.room_patches.specs.Validity.{IsRoom}
use Rattle.room_patches.proofs.Bounds.{part-le, bound-le}
use Rattle.boxes.specs.declared.face.Face.{Face}
use Rattle.boxes.specs.declared.face.Face.TheVariants.{Bottom, Top, Left, Right, Front, Back}
use Rattle.boxes.specs.declared.extent.Extent.{Extent}
use Rattle.boxes.specs.Boxes.{middle_of, faces, across, upward, place_on, axis_of, patch_at, patch_row, patches_of, box_patches}
use Rattle.boxes.specs.FurnishedRooms.{patches}
use Rattle.boxes.specs.Validity.{IsBox}
use Rattle.boxes.specs.Shapes.{IsExtent, HasExtents}
use Rattle.boxes.proofs.Extents.{across_valid, upward_valid, extents_in_room}

module _ {X : Type 0} (P : X → Type 0) where
  -- what holds of each element of each list holds of each of the lists in a row
  All-flat_map : {A : Type 0} (lists : A → List X) (keys : List A) → All (λ key. All P (lists key)) keys → All P (flat_map lists keys)
  All-flat_map lists [] each = All-nil P
  All-flat_map lists (key ∷ keys) each =
      All-append P (lists key) (flat_map lists keys) (All-head (λ other. All P (lists other)) key keys each)
      (All-flat_map lists keys (All-tail (λ other. All P (lists other)) key keys each))

-- what holds of each number below a count
All-below : (P : ℕ → Type 0) (count : ℕ) → ((k : ℕ) → k < count → P k) → All P (range_with_len 0 count)
All-below P count each = λ k d inside.
    let long = length-range_with_len 0 count in
    let at : get_or (range_with_len 0 count) k d ≡ k = get_or-range_with_len 0 count k d (omega arith) ∙ omega arith in
    rw at (each k (omega arith))

middle-near : (extent : Extent) (k : ℕ) → IsExtent extent → k < extent.cut.parts → middle_of extent k ≤ 200000
middle-near extent k valid inside =
    let near = valid.near in
    let before = bound-le extent.cut k valid.cut (omega arith) in
    let after = bound-le extent.cut (k + 1) valid.cut (omega arith) in
    omega arith

coordinate-valid : (n : ℕ) → n ≤ 200000 → IsCoordinate (pos n)
coordinate-valid n h = record { low = omega (arith, ints); high = omega (arith, ints) }

place_of-valid : (x y z : ℕ) → x ≤ 200000 → y ≤ 200000 → z ≤ 200000 → IsPlace (pos x ∷ pos y ∷ pos z ∷ [])
place_of-valid x y z hx hy hz = record { three = refl; x = coordinate-valid x hx; y = coordinate-valid y hy; z = coordinate-valid z hz }

axis-valid : (face : Face) → axis_of face ≤ 2
axis-valid Bottom = omega arith
axis-valid Top = omega arith
axis-valid Left = omega arith
axis-valid Right = omega arith
axis-valid Front = omega arith
axis-valid Back = omega arith

place-valid : (box : BoxSpec) → HasExtents box → (face : Face) (u v : ℕ) → u ≤ 200000 → v ≤ 200000 → IsPlace (place_on box face u v)
place-valid box valid Bottom u v hu hv = place_of-valid u v _ hu hv (omega (arith, valid.z.some, valid.z.within))
place-valid box valid Top u v hu hv = place_of-valid u v _ hu hv (omega (arith, valid.z.within))
place-valid box valid Left u v hu hv = place_of-valid _ u v (omega (arith, valid.x.some, valid.x.within)) hu hv
place-valid box valid Right u v hu hv = place_of-valid _ u v (omega (arith, valid.x.within)) hu hv
place-valid box valid Front u v hu hv = place_of-valid u _ v hu (omega (arith, valid.y.some, valid.y.within)) hv
place-valid box valid Back u v hu hv = place_of-valid u _ v hu (omega (arith, valid.y.within)) hv

module _ (room : RoomSpec) (box : BoxSpec) (valid : IsRoom room) (is : IsBox room box) where
  patch-valid : (face : Face) (column row : ℕ) → column < (across box face).cut.parts → row < (upward box face).cut.parts → IsPatch (patch_at box face column row)
  unfolding patch_at
  patch-valid face column row in_row in_face =
      let extents = extents_in_room room box valid is in
      let a = across_valid box extents face in
      let b = upward_valid box extents face in
      record {
        centre = place-valid box extents face _ _ (middle-near (across box face) column a in_row) (middle-near (upward box face) row b in_face);
        axis = axis-valid face;
        limited = mul-le _ _ 100000 100000 (part-le (across box face).cut column a.cut in_row) (part-le (upward box face).cut row b.cut in_face);
        reflectance = is.reflectance;
      }

  face-valid : (face : Face) → All IsPatch (patches_of box face)
  unfolding patches_of patch_row
  face-valid face =
      All-flat_map IsPatch (patch_row box face) (range_with_len 0 (upward box face).cut.parts)
      (All-below (λ row. All IsPatch (patch_row box face row)) (upward box face).cut.parts (λ row in_face.
      All-map IsPatch (λ column. patch_at box face column row) (range_with_len 0 (across box face).cut.parts)
      (All-below (λ column. IsPatch (patch_at box face column row)) (across box face).cut.parts (λ column in_row. patch-valid face column row in_row in_face))))

  box-valid : All IsPatch (box_patches box)
  unfolding box_patches
  box-valid = All-flat_map IsPatch (patches_of box) faces (λ k d inside. face-valid _)

boxes-valid : (room : RoomSpec) (boxes : List BoxSpec) → IsRoom room → All (IsBox room) boxes → All IsPatch (flat_map box_patches boxes)
boxes-valid room boxes valid each =
    All-flat_map IsPatch box_patches boxes (All-weaker (IsBox room) (λ box. All IsPatch (box_patches box)) (λ box is. box-valid room box valid is) boxes each)

-- all patches of a furnished room, where those of its room are
pub furnished-valid : (room : Room) (boxes : List BoxSpec) → IsRoom room.spec → All IsPatch (patches_of_room room) → All (IsBox room.spec) boxes → All IsPatch (patches (record { room = room; boxes = boxes }))
unfolding patches
furnished-valid room boxes valid own each = All-append IsPatch (patches_of_room room) (flat_map box_patches boxes) own (boxes-valid room.spec boxes valid each)
