-- Of which stored angle an angle is an image, in each span between mirrors.
use Rattle.std.proofs.Common.{◌≡◌, ℕ, ◌+◌, ◌-◌, ◌%◌, ◌<◌, ◌≤◌, ◌≢◌, true, false, eqb, ◌⊎◌, List, length, Option, Some, inl, inr, refl, sym, ap, ◌∙◌, arith}
use Rattle.std.proofs.lemmas.Bool.{eq-eqb, ne_eqb, cases_lt, or_from, or_left, or_right}
use Rattle.std.proofs.lemmas.Bool.Decides.{nat_tests}
use Rattle.std.proofs.Math.Nat.{mod-eq_of_lt, mod-eq-sub-mod}
use Rattle.std.specs.Prelude.{slice_index, unwrap_or}
use Rattle.std.specs.List.{list_any}
use Rattle.std.specs.List.Sorted.{IsStrictlyIncreasing}
use Rattle.std.proofs.lemmas.List.Elements.{All-from_get_or}
use Rattle.std.proofs.lemmas.List.Folds.{list_any_at, list_any_none}
use Rattle.photo_web.specs.declared.photometry.SymKind.{SymKind}
use Rattle.photo_web.specs.declared.photometry.SymKind.TheVariants.{Quadrant, Plane0, Plane90, Full}
use Rattle.symmetry.specs.Images.{is_image, is_plane, source, stored_place}
use Rattle.laws.proofs.Rising.{rising_lt, rising_le}
use Rattle.symmetry.proofs.Lists.{position_is}

pub full : (d a : ℕ) → is_image Full a d ≡ eqb d (a - 0)
full d a = grind (arith, nat_tests)

pub plane0_first : (d a : ℕ) → d ≤ 180000 → a ≤ 180000 → is_image Plane0 a d ≡ eqb d (a - 0)
plane0_first d a h k = grind (arith, nat_tests)

pub plane0_second : (d a : ℕ) → d ≤ 180000 → 180000 ≤ a → a ≤ 360000 → is_image Plane0 a d ≡ eqb d (360000 - a)
plane0_second d a h k m = grind (arith, nat_tests)

pub quadrant_first : (d a : ℕ) → d ≤ 90000 → a ≤ 90000 → is_image Quadrant a d ≡ eqb d (a - 0)
quadrant_first d a h k = grind (arith, nat_tests)

pub quadrant_second : (d a : ℕ) → d ≤ 90000 → 90000 ≤ a → a ≤ 180000 → is_image Quadrant a d ≡ eqb d (180000 - a)
quadrant_second d a h k m = grind (arith, nat_tests)

pub quadrant_third : (d a : ℕ) → d ≤ 90000 → 180000 ≤ a → a ≤ 270000 → is_image Quadrant a d ≡ eqb d (a - 180000)
quadrant_third d a h k m = grind (arith, nat_tests)

pub quadrant_fourth : (d a : ℕ) → d ≤ 90000 → 270000 ≤ a → a ≤ 360000 → is_image Quadrant a d ≡ eqb d (360000 - a)
quadrant_fourth d a h k m = grind (arith, nat_tests)

-- 180000 - d modulo a full turn
pub wrapped : (d : ℕ) → 90000 ≤ d → d ≤ 270000 → ((d ≤ 180000) × ((540000 - d) % 360000 ≡ 180000 - d)) ⊎ ((180000 < d) × ((540000 - d) % 360000 ≡ 540000 - d))
wrapped d h k =
    elim (cases_lt 180000 d) [
      | inl past ↦ inr (past, mod-eq_of_lt {n = 540000 - d} {m = 360000} (omega arith))
      | inr low ↦ inl (low, mod-eq-sub-mod {n = 540000 - d} {m = 360000} (omega arith) ∙ (mod-eq_of_lt {n = 540000 - d - 360000} {m = 360000} (omega arith) ∙ omega arith))
    ]

module _ (d a : ℕ) (least : 90000 ≤ d) (most : d ≤ 270000) where
  pub plane90_first : a ≤ 90000 → is_image Plane90 a d ≡ eqb d (180000 - a)
  plane90_first h = elim (wrapped d least most) [ inl w ↦ let e = w.1 in let l = w.0 in rw e (grind (arith, nat_tests)) | inr w ↦ let e = w.1 in let l = w.0 in rw e (grind (arith, nat_tests)) ]

  pub plane90_second : 90000 ≤ a → a ≤ 270000 → is_image Plane90 a d ≡ eqb d (a - 0)
  plane90_second h k = elim (wrapped d least most) [ inl w ↦ let e = w.1 in let l = w.0 in rw e (grind (arith, nat_tests)) | inr w ↦ let e = w.1 in let l = w.0 in rw e (grind (arith, nat_tests)) ]

  pub plane90_third : 270000 ≤ a → a < 360000 → is_image Plane90 a d ≡ eqb d (540000 - a)
  plane90_third h k = elim (wrapped d least most) [ inl w ↦ let e = w.1 in let l = w.0 in rw e (grind (arith, nat_tests)) | inr w ↦ let e = w.1 in let l = w.0 in rw e (grind (arith, nat_tests)) ]

  pub plane90_end : a ≡ 360000 → is_image Plane90 a d ≡ false
  plane90_end h = elim (wrapped d least most) [ inl w ↦ let e = w.1 in let l = w.0 in rw e (grind (arith, nat_tests)) | inr w ↦ let e = w.1 in let l = w.0 in rw e (grind (arith, nat_tests)) ]

-- there is a plane at a full turn
pub closes : (kind : SymKind) (stored : List ℕ) → is_plane kind stored 360000 ≡ true
closes kind stored = or_left (eqb 360000 360000) (list_any (is_image kind 360000) stored) (eq-eqb 360000 360000 refl)

-- In a span of angles each is an image of one stored angle at most, which another angle tells.
pub record TellsBack (kind : SymKind) (stored : List ℕ) (low high : ℕ) (back : ℕ → ℕ) : Type 0 where
  pub only : (a j : ℕ) → low ≤ a → a ≤ high → j < length stored → is_image kind a (slice_index stored j) ≡ eqb (slice_index stored j) (back a)

module _ (kind : SymKind) (stored : List ℕ) (up : IsStrictlyIncreasing stored) (low high : ℕ) (back : ℕ → ℕ) (tells : TellsBack kind stored low high back) where
  -- the image of the stored angle at place k
  module _ (a k : ℕ) (above : low ≤ a) (below : a ≤ high) (inside : k < length stored) (is : back a ≡ slice_index stored k) where
    here : is_image kind a (slice_index stored k) ≡ true
    here = tells.only a k above below inside ∙ eq-eqb _ _ (sym is)

    pub hit_plane : is_plane kind stored a ≡ true
    hit_plane = or_right _ _ (list_any_at (is_image kind a) stored k 0 inside here)

    pub hit_source : source kind stored a ≡ Some k
    hit_source =
        position_is (is_image kind a) stored k inside
        (λ j h. tells.only a j above below (omega arith) ∙ ne_eqb _ _ (λ same. let lt = rising_lt stored up j k h inside in omega arith))
        here

    pub hit_place : stored_place kind stored a ≡ k
    hit_place = ap (λ (o : Option ℕ). unwrap_or o (unwrap_or (source kind stored 0) 0)) hit_source

  -- an angle that no stored angle comes to
  pub miss : (a : ℕ) → low ≤ a → a ≤ high → a < 360000 → ((j : ℕ) → j < length stored → slice_index stored j ≢ back a) → is_plane kind stored a ≡ false
  miss a above below short none =
      or_from _ _ (ne_eqb a 360000 (λ same. omega arith))
      (list_any_none (is_image kind a) stored (All-from_get_or (λ x. is_image kind a x ≡ false) stored 0 (λ j h. tells.only a j above below h ∙ ne_eqb _ _ (none j h))))

  -- an angle that comes between two stored angles
  pub gap : (a k : ℕ) → low ≤ a → a ≤ high → a < 360000 → k + 1 < length stored → slice_index stored k < back a → back a < slice_index stored (k + 1) → is_plane kind stored a ≡ false
  gap a k above below short inside over under = miss a above below short apart
    where
      apart : (j : ℕ) → j < length stored → slice_index stored j ≢ back a
      apart j h same =
          elim (cases_lt k j) [
            | inl later ↦ let le = rising_le stored up (k + 1) j (omega arith) h in omega arith
            | inr early ↦ let le = rising_le stored up j k early (omega arith) in omega arith
          ]
