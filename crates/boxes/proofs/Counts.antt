-- How many patches a box has.
use Rattle.std.proofs.Common.{◌≡◌, ℕ, ◌+◌, ◌*◌, ◌≤◌, List, [], ◌∷◌, length, sym, ap, ◌∙◌, arith, length-append, append-nil}
use Rattle.std.specs.List.{range_with_len, flat_map}
use Rattle.std.proofs.lemmas.Nat.{mul-le}
use Rattle.std.proofs.lemmas.List.{nil_from_length}
use Rattle.std.proofs.lemmas.List.FromFn.{length-range_with_len, length-map-range_with_len}
use Rattle.room_patches.specs.declared.box_spec.BoxSpec.{BoxSpec}
use Rattle.room_patches.specs.declared.patch.Patch.{Patch}
use Rattle.room_patches.specs.Rooms.{Room}
use Rattle.room_patches.specs.Patches.{patches as patches_of_room}
use Rattle.boxes.specs.declared.face.Face.{Face}
use Rattle.boxes.specs.declared.face.Face.TheVariants.{Bottom, Top, Left, Right, Front, Back}
use Rattle.boxes.specs.Boxes.{across, upward, patch_at, patch_row, patches_of, box_patches}
use Rattle.boxes.specs.FurnishedRooms.{patches}

-- rows of one length
length-rows : (row : ℕ → List Patch) (width : ℕ) (rows : List ℕ) → ((k : ℕ) → length (row k) ≡ width) → length (flat_map row rows) ≡ length rows * width
length-rows row width [] each = omega arith
length-rows row width (k ∷ rows) each = omega (arith, length-append (row k) (flat_map row rows), each k, length-rows row width rows each)

length-face : (box : BoxSpec) (face : Face) → length (patches_of box face) ≡ (upward box face).cut.parts * (across box face).cut.parts
unfolding patches_of patch_row
length-face box face =
    length-rows (patch_row box face) (across box face).cut.parts (range_with_len 0 (upward box face).cut.parts)
    (λ row. length-map-range_with_len (λ column. patch_at box face column row) 0 (across box face).cut.parts)
    ∙ ap (λ (rows : ℕ). rows * (across box face).cut.parts) (length-range_with_len 0 (upward box face).cut.parts)

pub length-box : (box : BoxSpec) → length (box_patches box) ≡ 2 * (box.nx * box.ny + box.ny * box.nz + box.nx * box.nz)
unfolding box_patches
length-box box =
    let bottom = length-face box Bottom in
    let top = length-face box Top in
    let left = length-face box Left in
    let right = length-face box Right in
    let front = length-face box Front in
    let back = length-face box Back in
    omega (arith, length-append {A = Patch})

pub few_patches : (x y z : ℕ) → x ≤ 64 → y ≤ 64 → z ≤ 64 → 2 * (x * y + y * z + x * z) ≤ 24576
few_patches x y z hx hy hz = omega (arith, mul-le x y 64 64 hx hy, mul-le y z 64 64 hy hz, mul-le x z 64 64 hx hz)

-- a furnished room has those of its room and those of its boxes
pub length-furnished : (room : Room) (boxes : List BoxSpec) → length (patches (record { room = room; boxes = boxes })) ≡ length (patches_of_room room) + length (flat_map box_patches boxes)
unfolding patches
length-furnished room boxes = length-append (patches_of_room room) (flat_map box_patches boxes)

-- without a box it has those of its room
pub unfurnished : (room : Room) (boxes : List BoxSpec) → length boxes ≡ 0 → patches_of_room room ≡ patches (record { room = room; boxes = boxes })
unfolding patches
unfurnished room boxes none =
    let empty = nil_from_length boxes none in
    rw empty (sym (append-nil (patches_of_room room)))
