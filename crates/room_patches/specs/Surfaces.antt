-- The six surfaces of a room, and how much light each place of them reflects. Their order is this project's own.
use Rattle.std.specs.Prelude.{ℕ, ◌*◌, ◌&&◌, Bool, nat_eq, nat_lt, nat_le, List, [], ◌∷◌, reverse, slice_index_or, unwrap_or}
use Rattle.std.specs.List.{find}
use Rattle.std.specs.Option.{option_map}
use Rattle.room_patches.specs.declared.spec.RoomSpec.{RoomSpec}
use Rattle.room_patches.specs.declared.region.Region.{Region}
use Rattle.room_patches.specs.declared.surface.Surface.{Surface}
use Rattle.room_patches.specs.declared.surface.Surface.TheVariants.{Floor, Ceiling, Left, Right, Front, Back}
use Rattle.room_patches.specs.Rooms.{Room}

-- the surfaces, in the order of patches
abbrev pub surfaces : List Surface
surfaces = Floor ∷ Ceiling ∷ Left ∷ Right ∷ Front ∷ Back ∷ []

-- a surface's number
abbrev pub number_of : Surface → ℕ
number_of Floor = 0
number_of Ceiling = 1
number_of Left = 2
number_of Right = 3
number_of Front = 4
number_of Back = 5

-- what a surface reflects where no region lies
abbrev pub reflectance_of : RoomSpec → Surface → ℕ
reflectance_of spec Floor = spec.floor
reflectance_of spec Ceiling = spec.ceiling
reflectance_of spec Left = slice_index_or spec.walls 0 0
reflectance_of spec Right = slice_index_or spec.walls 1 0
reflectance_of spec Front = slice_index_or spec.walls 2 0
reflectance_of spec Back = slice_index_or spec.walls 3 0

-- whether a region contains the place of its surface with these coordinates in half-millimetres: on its near edges it does, on its far ones it doesn't
abbrev pub contains : Region → ℕ → ℕ → Bool
contains region u v = nat_le (2 * region.u0) u && nat_lt u (2 * region.u1) && nat_le (2 * region.v0) v && nat_lt v (2 * region.v1)

-- whether a region lies on a surface and contains a place of it
abbrev pub covers : Surface → ℕ → ℕ → Region → Bool
covers surface u v region = nat_eq region.surface (number_of surface) && contains region u v

-- what a surface reflects at a place: as much as the last region that covers it, or else as the surface itself
unfoldable pub reflectance_at : Room → Surface → ℕ → ℕ → ℕ
reflectance_at room surface u v = unwrap_or (option_map (λ region. region.reflectance) (find (covers surface u v) (reverse room.regions))) (reflectance_of room.spec surface)
