-- Each patch of a valid room is one: its centre is a place, and its area and reflectance are within their limits.
use Rattle.std.proofs.Common.{◌≡◌, ℕ, zero, suc, ◌+◌, ◌*◌, ◌<◌, ◌≤◌, pos, List, map, refl, arith}
use Rattle.std.specs.Prelude.{All, slice_index_or}
use Rattle.std.specs.List.{range_with_len, flat_map}
use Rattle.std.proofs.lemmas.Int.{ints}
use Rattle.std.proofs.lemmas.Nat.{mul-le}
use Rattle.std.proofs.lemmas.List.Elements.{All-nil, All-cons, All-append}
use Rattle.room_patches.specs.declared.spec.RoomSpec.{RoomSpec}
use Rattle.room_patches.specs.declared.patch.Patch.{Patch}
use Rattle.room_patches.specs.declared.surface.Surface.{Surface}
use Rattle.room_patches.specs.declared.surface.Surface.TheVariants.{Floor, Ceiling, Left, Right, Front, Back}
use Rattle.room_patches.specs.Cuts.{IsCut}
use Rattle.room_patches.specs.Places.{IsCoordinate, IsPlace}
use Rattle.room_patches.specs.Rooms.{Room}
use Rattle.room_patches.specs.Surfaces.{reflectance_of}
use Rattle.room_patches.specs.Patches.{IsPatch, across, upward, place_on, axis_of, patch_at, patch_row, patches_of, patches}
use Rattle.room_patches.specs.Validity.{IsRoom, AreRegions}
use Rattle.room_patches.proofs.Bounds.{part-some, part-le, middle-le}
use Rattle.room_patches.proofs.Regions.{each-or, reflects-within}

module _ {X : Type 0} (P : X → Type 0) where
  -- what holds of each value of a function holds of a list of its values
  all-values : (f : ℕ → X) (a n m : ℕ) → a + n ≡ m → ((k : ℕ) → k < m → P (f k)) → All P (map f (range_with_len a n))
  all-values f a zero m e each = All-nil P
  all-values f a (suc n) m e each = All-cons P (f a) (map f (range_with_len (a + 1) n)) (each a (omega arith)) (all-values f (a + 1) n m (omega arith) each)

  all-lists : (f : ℕ → List X) (a n m : ℕ) → a + n ≡ m → ((k : ℕ) → k < m → All P (f k)) → All P (flat_map f (range_with_len a n))
  all-lists f a zero m e each = All-nil P
  all-lists f a (suc n) m e each = All-append P (f a) (flat_map f (range_with_len (a + 1) n)) (each a (omega arith)) (all-lists f (a + 1) n m (omega arith) each)

coordinate-valid : (n : ℕ) → n ≤ 200000 → IsCoordinate (pos n)
coordinate-valid n h = record { low = omega (arith, ints); high = omega (arith, ints) }

module _ (spec : RoomSpec) (valid : IsRoom spec) where
  pub across_valid : (surface : Surface) → IsCut (across spec surface)
  across_valid Floor = valid.width
  across_valid Ceiling = valid.width
  across_valid Left = valid.depth
  across_valid Right = valid.depth
  across_valid Front = valid.width
  across_valid Back = valid.width

  pub upward_valid : (surface : Surface) → IsCut (upward spec surface)
  upward_valid Floor = valid.depth
  upward_valid Ceiling = valid.depth
  upward_valid Left = valid.height
  upward_valid Right = valid.height
  upward_valid Front = valid.height
  upward_valid Back = valid.height

  across_long : (surface : Surface) → 500 ≤ (across spec surface).whole
  across_long Floor = valid.wide
  across_long Ceiling = valid.wide
  across_long Left = valid.deep
  across_long Right = valid.deep
  across_long Front = valid.wide
  across_long Back = valid.wide

  upward_long : (surface : Surface) → 500 ≤ (upward spec surface).whole
  upward_long Floor = valid.deep
  upward_long Ceiling = valid.deep
  upward_long Left = valid.high
  upward_long Right = valid.high
  upward_long Front = valid.high
  upward_long Back = valid.high

  wall-valid : (k : ℕ) → slice_index_or spec.walls k 0 ≤ 950
  wall-valid k = each-or (λ wall. wall ≤ 950) spec.walls k 0 valid.walls (omega arith)

  reflectance-valid : (surface : Surface) → reflectance_of spec surface ≤ 950
  reflectance-valid Floor = valid.floor
  reflectance-valid Ceiling = valid.ceiling
  reflectance-valid Left = wall-valid 0
  reflectance-valid Right = wall-valid 1
  reflectance-valid Front = wall-valid 2
  reflectance-valid Back = wall-valid 3

  axis-valid : (surface : Surface) → axis_of surface ≤ 2
  axis-valid Floor = omega arith
  axis-valid Ceiling = omega arith
  axis-valid Left = omega arith
  axis-valid Right = omega arith
  axis-valid Front = omega arith
  axis-valid Back = omega arith

  place-valid : (surface : Surface) (u v : ℕ) → u ≤ 200000 → v ≤ 200000 → IsPlace (place_on spec surface u v)
  place-valid Floor u v hu hv = record { three = refl; x = coordinate-valid u hu; y = coordinate-valid v hv; z = coordinate-valid 0 (omega arith) }
  place-valid Ceiling u v hu hv =
      let short = valid.height.short in
      record { three = refl; x = coordinate-valid u hu; y = coordinate-valid v hv; z = coordinate-valid (2 * spec.height) (omega arith) }
  place-valid Left u v hu hv = record { three = refl; x = coordinate-valid 0 (omega arith); y = coordinate-valid u hu; z = coordinate-valid v hv }
  place-valid Right u v hu hv =
      let short = valid.width.short in
      record { three = refl; x = coordinate-valid (2 * spec.width) (omega arith); y = coordinate-valid u hu; z = coordinate-valid v hv }
  place-valid Front u v hu hv = record { three = refl; x = coordinate-valid u hu; y = coordinate-valid 0 (omega arith); z = coordinate-valid v hv }
  place-valid Back u v hu hv =
      let short = valid.depth.short in
      record { three = refl; x = coordinate-valid u hu; y = coordinate-valid (2 * spec.depth) (omega arith); z = coordinate-valid v hv }

module _ (room : Room) (valid : IsRoom room.spec) (regions : AreRegions room.spec room.regions) where
  patch-valid : (surface : Surface) (column row : ℕ) → column < (across room.spec surface).parts → row < (upward room.spec surface).parts → IsPatch (patch_at room surface column row)
  unfolding patch_at
  patch-valid surface column row in_row in_surface =
      let a = across_valid room.spec valid surface in
      let b = upward_valid room.spec valid surface in
      record {
        centre = place-valid room.spec valid surface _ _ (middle-le (across room.spec surface) column a in_row) (middle-le (upward room.spec surface) row b in_surface);
        axis = axis-valid room.spec valid surface;
        limited = mul-le _ _ 100000 100000 (part-le (across room.spec surface) column a in_row) (part-le (upward room.spec surface) row b in_surface);
        reflectance = reflects-within room surface _ _ (reflectance-valid room.spec valid surface) regions;
      }

  area-positive : (surface : Surface) (column row : ℕ) → 1 ≤ (patch_at room surface column row).area
  unfolding patch_at
  area-positive surface column row =
      mul-le 1 1 _ _ (part-some (across room.spec surface) column (across_long room.spec valid surface) (across_valid room.spec valid surface))
      (part-some (upward room.spec surface) row (upward_long room.spec valid surface) (upward_valid room.spec valid surface))

  -- what holds of each patch of each surface holds of all patches
  all-patches : (P : Patch → Type 0)
      → ((surface : Surface) (column row : ℕ) → column < (across room.spec surface).parts → row < (upward room.spec surface).parts → P (patch_at room surface column row))
      → All P (patches room)
  unfolding patches patches_of patch_row
  all-patches P each =
      All-append P (patches_of room Floor) _ (on Floor)
      (All-append P (patches_of room Ceiling) _ (on Ceiling)
      (All-append P (patches_of room Left) _ (on Left)
      (All-append P (patches_of room Right) _ (on Right)
      (All-append P (patches_of room Front) _ (on Front) (All-append P (patches_of room Back) _ (on Back) (All-nil P))))))
    where
      on : (surface : Surface) → All P (patches_of room surface)
      on surface =
          all-lists P (patch_row room surface) 0 (upward room.spec surface).parts (upward room.spec surface).parts (omega arith)
          (λ row in_surface. all-values P (λ column. patch_at room surface column row) 0 (across room.spec surface).parts (across room.spec surface).parts (omega arith)
          (λ column in_row. each surface column row in_row in_surface))

  pub patches-valid : All IsPatch (patches room)
  patches-valid = all-patches IsPatch patch-valid

  pub areas-positive : All (λ patch. 1 ≤ patch.area) (patches room)
  areas-positive = all-patches (λ patch. 1 ≤ patch.area) (λ surface column row in_row in_surface. area-positive surface column row)
