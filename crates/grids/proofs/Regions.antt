-- Whether a point is too near to a patch is a matter of where the patch lies, and not of what it reflects: so it is the
-- same whatever regions a room has.
use Rattle.std.proofs.Common.{◌≡◌, ℕ, Bool, false, not, cond, ℤ, List, [], ◌∷◌, length, get_or, map, ◌+◌, ◌<◌, refl, sym, ◌∙◌, ap, arith}
use Rattle.std.specs.Prelude.{All, nat_lt, Some, None}
use Rattle.std.specs.List.{position, prefix_len}
use Rattle.std.proofs.lemmas.List.{length-map, get_or-map}
use Rattle.room_patches.specs.declared.patch.Patch.{Patch}
use Rattle.room_patches.specs.declared.spec.RoomSpec.{RoomSpec}
use Rattle.room_patches.specs.Rooms.{Room, plain_room}
use Rattle.room_patches.specs.Patches.{patches, in_front, distance_before}
use Rattle.room_patches.proofs.Bare.{bare, bare-patches}
use Rattle.room_patches.proofs.Counts.{as-plain}
use Rattle.grids.specs.Validity.{is_too_near}

module _ {X Y : Type 0} (p : Y → Bool) (f : X → Y) where
  prefix-map : (q : Y → Bool) (xs : List X) → prefix_len q (map f xs) ≡ prefix_len (λ x. q (f x)) xs
  prefix-map q [] = refl
  prefix-map q (x ∷ xs) = ap (λ (n : ℕ). cond (q (f x)) (1 + n) 0) (prefix-map q xs)

  -- the first place of a list of values is that of what they are made from
  position-map : (xs : List X) → position p (map f xs) ≡ position (λ x. p (f x)) xs
  position-map xs = λ k. cond (nat_lt (prefix-map (λ y. not (p y)) xs k) (length-map xs f k)) (Some (prefix-map (λ y. not (p y)) xs k)) None

-- a patch is as near as it would be without its reflectance
near-bare : (point : List ℤ) (patch : Patch) → is_too_near point (bare patch) ≡ is_too_near point patch
unfolding in_front distance_before
near-bare point patch = refl

positions-same : (p q : Patch → Bool) (xs : List Patch) → ((x : Patch) → p x ≡ q x) → position p xs ≡ position q xs
positions-same p q xs same = λ k. position (λ x. same x k) xs

module _ (room : Room) (point : List ℤ) where
  by-bare : (r : Room) → position (is_too_near point) (patches r) ≡ position (is_too_near point) (map bare (patches r))
  by-bare r =
      positions-same (is_too_near point) (λ patch. is_too_near point (bare patch)) (patches r) (λ patch. sym (near-bare point patch)) ∙ sym (position-map (is_too_near point) bare (patches r))

  -- the first patch that is too near is the same with regions and without them
  first-near : position (is_too_near point) (patches room) ≡ position (is_too_near point) (patches (plain_room room.spec))
  first-near = by-bare room ∙ (ap (position (is_too_near point)) (bare-patches room) ∙ sym (by-bare (plain_room room.spec)))

  pub first_near : (spec : RoomSpec) → spec ≡ room.spec → position (is_too_near point) (patches room) ≡ position (is_too_near point) (patches (plain_room spec))
  first_near spec is = rw is first-near

  -- and where none is, none is
  all-apart : All (λ patch. is_too_near point patch ≡ false) (patches (plain_room room.spec)) → All (λ patch. is_too_near point patch ≡ false) (patches room)
  all-apart apart = λ k d inside.
      sym (near-bare point (get_or (patches room) k d))
      ∙ (ap (is_too_near point) (sym (get_or-map bare (patches room) k d (bare d) inside) ∙ (ap (λ (all : List Patch). get_or all k (bare d)) (bare-patches room) ∙ get_or-map bare (patches (plain_room room.spec)) k d (bare d) (within k inside)))
      ∙ (near-bare point (get_or (patches (plain_room room.spec)) k d) ∙ apart k d (within k inside)))
    where
      within : (k : ℕ) → k < length (patches room) → k < length (patches (plain_room room.spec))
      within k inside = let same = as-plain room in omega arith

  pub all_apart : (spec : RoomSpec) → room.spec ≡ spec → All (λ patch. is_too_near point patch ≡ false) (patches (plain_room spec)) → All (λ patch. is_too_near point patch ≡ false) (patches room)
  all_apart spec is apart = all-apart (rw is apart)
