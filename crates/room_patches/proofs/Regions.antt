-- What regions change of a patch: its reflectance alone, and that stays within its limit.
use Rattle.std.proofs.Common.{◌≡◌, ℕ, zero, suc, ◌-◌, ◌<◌, ◌≤◌, Bool, true, false, not, cond, List, [], ◌∷◌, length, reverse, get_or, Option, Some, None, refl, sym, subst, arith}
use Rattle.std.specs.Prelude.{nat_le, All, IfSome, slice_get, slice_index_or, unwrap_or}
use Rattle.std.specs.List.{find, position, position_or_len}
use Rattle.std.specs.Option.{option_map}
use Rattle.std.proofs.lemmas.Bool.{leb-true, ltb-false, and_parts}
use Rattle.std.proofs.lemmas.List.Sums.{fails_before_first}
use Rattle.std.proofs.lemmas.List.{get_or-reverse, length-reverse}
use Rattle.std.proofs.lemmas.List.Elements.{All-nil, All-head, All-tail, All-get_or, All-from_get_or}
use Rattle.room_patches.specs.declared.spec.RoomSpec.{RoomSpec}
use Rattle.room_patches.specs.declared.region.Region.{Region}
use Rattle.room_patches.specs.declared.surface.Surface.{Surface}
use Rattle.room_patches.specs.declared.faults.RoomFault.TheVariants.{Region as OfRegion}
use Rattle.room_patches.specs.Rooms.{Room}
use Rattle.room_patches.specs.Surfaces.{surfaces, covers, reflectance_of, reflectance_at}
use Rattle.room_patches.specs.Validity.{fits_on, is_region, region_duty, AreRegions}

module _ {X : Type 0} (P : X → Type 0) where
  -- what holds of each element and of the default holds of what stands at a place
  pub each-or : (xs : List X) (k : ℕ) (d : X) → All P xs → P d → P (slice_index_or xs k d)
  each-or [] k d each default = default
  each-or (x ∷ xs) zero d each default = All-head P x xs each
  each-or (x ∷ xs) (suc k) d each default = each-or xs k d (All-tail P x xs each) default

  All-reverse : (xs : List X) → All P xs → All P (reverse xs)
  All-reverse [] each = All-nil P
  All-reverse (x ∷ xs) each =
      All-from_get_or P (reverse (x ∷ xs)) x (λ i inside.
      let long = length-reverse (x ∷ xs) in
      subst P (sym (get_or-reverse (x ∷ xs) i x (omega arith))) (All-get_or P (x ∷ xs) (length (x ∷ xs) - 1 - i) x (omega arith) each))

  -- what holds of each element holds of the one that is found
  IfSome-find : (test : X → Bool) (xs : List X) → All P xs → IfSome (find test xs) P
  IfSome-find test [] each = tt
  IfSome-find test (x ∷ xs) each = either (test x) (find test xs) (All-head P x xs each) (IfSome-find test xs (All-tail P x xs each))
    where
      either : (b : Bool) (later : Option X) → P x → IfSome later P → IfSome (cond b (Some x) later) P
      either true later here there = here
      either false later here there = there

-- where no place is found, no element passes
pub none_found : {X F : Type 0} (p : X → Bool) (xs : List X) (f : ℕ → F) → option_map f (position p xs) ≡ None → All (λ x. p x ≡ false) xs
none_found {X} {F} p xs f none = λ k d inside.
    let past = ltb-false _ _ (by_test (position_or_len p xs) _ none) in
    fails_before_first p xs k d (omega arith)
  where
    by_test : (n : ℕ) (b : Bool) → option_map f (cond b (Some n) None) ≡ None → b ≡ false
    by_test n true h = absurd (cc)
    by_test n false h = refl

-- where no region is refused, each is one
pub regions_where_met : (spec : RoomSpec) (regions : List Region) → region_duty spec regions ≡ None → AreRegions spec regions
unfolding region_duty
regions_where_met spec regions met = λ k d inside. by_test (is_region spec (get_or regions k d)) (none_found (λ region. not (is_region spec region)) regions OfRegion met k d inside)
  where
    by_test : (b : Bool) → not b ≡ false → b ≡ true
    by_test true h = refl
    by_test false h = absurd (cc)

region-reflects : (spec : RoomSpec) (region : Region) → is_region spec region ≡ true → region.reflectance ≤ 950
region-reflects spec region = by_surface (slice_get surfaces region.surface) refl
  where
    by_surface : (o : Option Surface) → slice_get surfaces region.surface ≡ o → is_region spec region ≡ true → region.reflectance ≤ 950
    by_surface None is valid = absurd (cc)
    by_surface (Some surface) is valid = leb-true _ _ (and_parts (nat_le region.reflectance 950) (fits_on spec surface region) (rw is at valid)).0

-- a place reflects no more than its limit allows, where the surface doesn't and no region does
pub reflects-within : (room : Room) (surface : Surface) (u v : ℕ) → reflectance_of room.spec surface ≤ 950 → AreRegions room.spec room.regions → reflectance_at room surface u v ≤ 950
unfolding reflectance_at
reflects-within room surface u v plain regions =
    by_region (find (covers surface u v) (reverse room.regions))
    (IfSome-find (λ region. is_region room.spec region ≡ true) (covers surface u v) (reverse room.regions) (All-reverse (λ region. is_region room.spec region ≡ true) room.regions regions))
  where
    by_region : (o : Option Region) → IfSome o (λ region. is_region room.spec region ≡ true) → unwrap_or (option_map (λ region. region.reflectance) o) (reflectance_of room.spec surface) ≤ 950
    by_region None valid = plain
    by_region (Some region) valid = region-reflects room.spec region valid
