-- Transfer shares: how the flux that leaves a patch falls on the patches of its room, in parts of 10^9. The rule is this
-- project's own: it looks at the centres of patches alone, and makes each row whole by its own sum. So shares are no
-- true form factors, and they need not be reciprocal.
use Rattle.std.specs.Prelude.{ℕ, ◌-◌, ◌*◌, ◌/◌, ◌^◌, ◌==◌, ◌&&◌, nat_lt, if◌then◌else◌, List, [], map, sum, option_map, unwrap_or, slice_get}
use Rattle.std.specs.List.{flat_map}
use Rattle.room_patches.specs.Rooms.{Room}
use Rattle.room_patches.specs.declared.patch.Patch.{Patch}
use Rattle.room_patches.specs.Patches.{patches, in_front}
use Rattle.room_patches.specs.Places.{squared_distance}
use Rattle.flux_system.specs.System.{FluxSystem}

-- how far the centre of the second patch lies in front of the first
abbrev pub distance_ahead : Patch → Patch → ℕ
distance_ahead from to = in_front from to.centre

-- what the flux from one patch to another weighs: the two cosines times the other's area over the square of the distance
-- of the centres, times 10^15 and cut; lengths count half-millimetres and areas square millimetres. The weight is 0
-- unless each centre lies in front of the other patch, and so it is from a patch to itself, whose centre lies in its own
-- plane.
unfoldable pub weight : Patch → Patch → ℕ
weight from to =
    if nat_lt 0 (distance_ahead from to) && nat_lt 0 (distance_ahead to from)
    then 10 ^ 15 * distance_ahead from to * distance_ahead to from * to.area / (squared_distance from.centre to.centre * squared_distance from.centre to.centre)
    else 0

-- the weights from a patch to all patches of the room
abbrev pub weights : Room → Patch → List ℕ
weights room from = map (weight from) (patches room)

-- the share that a weight has in a sum of weights, cut; none where nothing weighs
abbrev pub weight_share : ℕ → ℕ → ℕ
weight_share total weight = if total == 0 then 0 else weight * (10 ^ 9 - 1) / total

-- the share that each of some weights has in their sum
unfoldable pub shares_of : List ℕ → List ℕ
shares_of weights = map (weight_share (sum weights)) weights

-- the shares from a patch to all patches of the room
abbrev pub share_row_from : Room → Patch → List ℕ
share_row_from room from = shares_of (weights room from)

-- the shares from patch i
abbrev pub room_share_row : Room → ℕ → List ℕ
room_share_row room i = unwrap_or (option_map (share_row_from room) (slice_get (patches room) i)) []

-- all shares, a row for each patch
unfoldable pub all_shares : Room → List ℕ
all_shares room = flat_map (share_row_from room) (patches room)

-- the reflectance of each patch
unfoldable pub reflectances_of : Room → List ℕ
reflectances_of room = map (λ patch. patch.reflectance) (patches room)

-- the flux system of a room, with a threshold
abbrev pub room_system : Room → ℕ → FluxSystem
room_system room threshold = record { threshold = threshold; reflectance = reflectances_of room; shares = all_shares room }
