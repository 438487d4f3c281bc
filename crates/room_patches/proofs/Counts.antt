-- How many patches a room has.
use Rattle.std.proofs.Common.{◌≡◌, ℕ, zero, suc, ◌+◌, ◌*◌, ◌≤◌, List, length, sym, ◌∙◌, arith, length-append}
use Rattle.std.specs.List.{range_with_len, flat_map}
use Rattle.std.proofs.lemmas.Nat.{mul-le}
use Rattle.std.proofs.lemmas.List.FromFn.{length-map-range_with_len}
use Rattle.room_patches.specs.declared.patch.Patch.{Patch}
use Rattle.room_patches.specs.declared.surface.Surface.{Surface}
use Rattle.room_patches.specs.declared.surface.Surface.TheVariants.{Floor, Ceiling, Left, Right, Front, Back}
use Rattle.room_patches.specs.Rooms.{Room, plain_room}
use Rattle.room_patches.specs.Patches.{across, upward, patch_at, patch_row, patches_of, patches}
use Rattle.room_patches.specs.Validity.{IsRoom}

-- rows of one length
length-rows : (f : ℕ → List Patch) (w a n : ℕ) → ((row : ℕ) → length (f row) ≡ w) → length (flat_map f (range_with_len a n)) ≡ n * w
length-rows f w a zero each = omega arith
length-rows f w a (suc n) each = omega (arith, length-append (f a) (flat_map f (range_with_len (a + 1) n)), each a, length-rows f w (a + 1) n each)

length-surface : (room : Room) (surface : Surface) → length (patches_of room surface) ≡ (upward room.spec surface).parts * (across room.spec surface).parts
unfolding patches_of patch_row
length-surface room surface =
    length-rows (patch_row room surface) (across room.spec surface).parts 0 (upward room.spec surface).parts
    (λ row. length-map-range_with_len (λ column. patch_at room surface column row) 0 (across room.spec surface).parts)

pub length-patches : (room : Room) → length (patches room) ≡ 2 * (room.spec.nx * room.spec.ny + room.spec.ny * room.spec.nz + room.spec.nx * room.spec.nz)
unfolding patches
length-patches room =
    let floor = length-surface room Floor in
    let ceiling = length-surface room Ceiling in
    let left = length-surface room Left in
    let right = length-surface room Right in
    let front = length-surface room Front in
    let back = length-surface room Back in
    omega (arith, length-append {A = Patch})

pub some-patches : (room : Room) → IsRoom room.spec → 1 ≤ length (patches room)
some-patches room valid =
    let nx = valid.width.some in
    let ny = valid.depth.some in
    let product = mul-le 1 1 room.spec.nx room.spec.ny nx ny in
    omega (arith, length-patches room)

-- regions add no patch
pub as-plain : (room : Room) → length (patches room) ≡ length (patches (plain_room room.spec))
as-plain room = length-patches room ∙ sym (length-patches (plain_room room.spec))

pub few-patches : (room : Room) → IsRoom room.spec → length (patches room) ≤ 4096
few-patches room valid = let few = valid.few in omega (arith, as-plain room)
