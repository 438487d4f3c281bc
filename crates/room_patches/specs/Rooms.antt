-- A room: what it is asked for by, and the rectangles of its surfaces that have reflectances of their own.
use Rattle.std.specs.Prelude.{List, []}
use Rattle.room_patches.specs.declared.spec.RoomSpec.{RoomSpec}
use Rattle.room_patches.specs.declared.region.Region.{Region}

pub record Room : Type 0 where
  pub spec : RoomSpec
  pub regions : List Region

-- a room without regions
abbrev pub plain_room : RoomSpec → Room
plain_room spec = record { spec = spec; regions = [] }
