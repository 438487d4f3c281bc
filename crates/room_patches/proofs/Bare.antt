-- What regions leave as it is: patches without their reflectances are those of the room without regions.
use Rattle.std.proofs.Common.{◌≡◌, ℕ, List, [], ◌∷◌, ◌++◌, map, refl, sym, ◌∙◌, ap}
use Rattle.std.specs.List.{range_with_len, flat_map}
use Rattle.std.proofs.lemmas.List.{map-append}
use Rattle.room_patches.specs.declared.patch.Patch.{Patch}
use Rattle.room_patches.specs.declared.surface.Surface.{Surface}
use Rattle.room_patches.specs.Rooms.{Room, plain_room}
use Rattle.room_patches.specs.Surfaces.{surfaces}
use Rattle.room_patches.specs.Patches.{across, upward, patch_at, patch_row, patches_of, patches}

-- a patch that reflects nothing
abbrev pub bare : Patch → Patch
bare patch = record { centre = patch.centre; axis = patch.axis; rising = patch.rising; area = patch.area; reflectance = 0 }

module _ {X : Type 0} (f : Patch → Patch) where
  map-same : (g h : X → Patch) (xs : List X) → ((x : X) → f (g x) ≡ f (h x)) → map f (map g xs) ≡ map f (map h xs)
  map-same g h [] each = refl
  map-same g h (x ∷ xs) each = λ k. each x k ∷ map-same g h xs each k

  lists-same : (g h : X → List Patch) (xs : List X) → ((x : X) → map f (g x) ≡ map f (h x)) → map f (flat_map g xs) ≡ map f (flat_map h xs)
  lists-same g h [] each = refl
  lists-same g h (x ∷ xs) each =
      map-append f (g x) (flat_map g xs) ∙ ((λ k. each x k ++ lists-same g h xs each k) ∙ sym (map-append f (h x) (flat_map h xs)))

module _ (room : Room) where
  bare-patch : (surface : Surface) (row column : ℕ) → bare (patch_at room surface column row) ≡ bare (patch_at (plain_room room.spec) surface column row)
  unfolding patch_at
  bare-patch surface row column = refl

  bare-row : (surface : Surface) (row : ℕ) → map bare (patch_row room surface row) ≡ map bare (patch_row (plain_room room.spec) surface row)
  unfolding patch_row
  bare-row surface row =
      map-same bare (λ column. patch_at room surface column row) (λ column. patch_at (plain_room room.spec) surface column row) (range_with_len 0 (across room.spec surface).parts) (bare-patch surface row)

  bare-surface : (surface : Surface) → map bare (patches_of room surface) ≡ map bare (patches_of (plain_room room.spec) surface)
  unfolding patches_of
  bare-surface surface =
      lists-same bare (patch_row room surface) (patch_row (plain_room room.spec) surface) (range_with_len 0 (upward room.spec surface).parts) (bare-row surface)

  pub bare-patches : map bare (patches room) ≡ map bare (patches (plain_room room.spec))
  unfolding patches
  bare-patches = lists-same bare (patches_of room) (patches_of (plain_room room.spec)) surfaces bare-surface
