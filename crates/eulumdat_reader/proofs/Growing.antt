-- Lists of angles and of values that grow by one.
use Rattle.std.proofs.Common.{◌≡◌, ℕ, ◌+◌, ◌-◌, ◌<◌, ◌≤◌, min, Bool, true, false, cond, List, [], ◌∷◌, ◌^◌, ◌++◌, length, get_or, map, refl, ap, ◌∙◌, arith, eqb}
use Rattle.std.specs.Prelude.{filter}
use Rattle.std.specs.List.{range_with_len}
use Rattle.std.specs.List.Sorted.{IsStrictlyIncreasing}
use Rattle.std.proofs.lemmas.Bool.{ne_eqb}
use Rattle.std.proofs.lemmas.List.{map-append, append-nil}
use Rattle.laws.proofs.Ranges.{map-more, filter-more}
use Rattle.laws.proofs.Rising.{rising_push}
use Rattle.std.proofs.lemmas.Bool.Decides.{nat_tests}
use Rattle.duties.specs.Duties.{unless}
use Rattle.lux_lines.specs.Places.{Piece}
use Rattle.lux_num.specs.declared.decimal.Decimal.{Decimal}
use Rattle.eulumdat_reader.specs.declared.gaps.Gap.{Gap}
use Rattle.eulumdat_reader.specs.declared.faults.LdtFault.TheVariants.{Angles}
use Rattle.eulumdat_reader.specs.Rows.{number_at, field, presence_duty}
use Rattle.eulumdat_reader.specs.Planes.{is_outside}
use Rattle.photo_numbers.specs.Numbers.{is_angle}
use Rattle.eulumdat_reader.specs.Angles.{angle_at, angles, least_behind, angle_duty}
use Rattle.photo_numbers.specs.Intensities.{intensity_of}
use Rattle.eulumdat_reader.specs.Intensities.{intensities}

module _ (unread : Gap) (all : List Piece) (start at : ℕ) where
  -- the angles that are read, past one place more
  grown : angles unread all start (at + 1) ≡ angles unread all start at ++ map (angle_at all start) (cond (is_outside unread at) (at ∷ []) [])
  unfolding angles
  grown =
      ap (map (angle_at all start)) (filter-more (is_outside unread) at)
      ∙ map-append (angle_at all start) (filter (is_outside unread) (range_with_len 0 at)) (cond (is_outside unread at) (at ∷ []) [])

  pub angles_more : is_outside unread at ≡ true → angles unread all start (at + 1) ≡ angles unread all start at ++ angle_at all start at ∷ []
  angles_more h = grown ∙ ap (λ (b : Bool). angles unread all start at ++ map (angle_at all start) (cond b (at ∷ []) [])) h

  pub angles_stay : is_outside unread at ≡ false → angles unread all start (at + 1) ≡ angles unread all start at
  angles_stay h = grown ∙ (ap (λ (b : Bool). angles unread all start at ++ map (angle_at all start) (cond b (at ∷ []) [])) h ∙ append-nil _)

  pub duty_outside : (list most : ℕ) → is_outside unread at ≡ true → angle_duty list most unread all start at ≡ field all (start + at) (λ (x : Decimal). unless (is_angle (least_behind (angles unread all start at)) most x) (Angles list at))
  unfolding angle_duty
  duty_outside list most h = rw h refl

  pub duty_inside : (list most : ℕ) → is_outside unread at ≡ false → angle_duty list most unread all start at ≡ presence_duty all (start + at)
  unfolding angle_duty
  duty_inside list most h = rw h refl

pub no_angles : (unread : Gap) (all : List Piece) (start : ℕ) → angles unread all start 0 ≡ []
unfolding angles
no_angles unread all start = refl

pub intensities_more : (scale : ℕ) (all : List Piece) (start at : ℕ) → intensities scale all start (at + 1) ≡ intensities scale all start at ++ intensity_of (10 ^ 12) scale (number_at all (start + at)) ∷ []
unfolding intensities
intensities_more scale all start at = map-more (λ (k : ℕ). intensity_of (10 ^ 12) scale (number_at all (start + k))) at

pub no_intensities : (scale : ℕ) (all : List Piece) (start : ℕ) → intensities scale all start 0 ≡ []
unfolding intensities
no_intensities scale all start = refl

-- one number is above another, where it is the least behind a list that ends with the other
least_above : (xs : List ℕ) (k x : ℕ) → k + 1 ≡ length xs → least_behind xs ≤ x → get_or xs k 0 < x
least_above xs k x last low =
    let some : eqb (length xs) 0 ≡ false = ne_eqb (length xs) 0 (λ h. omega arith) in
    let e : length xs - 1 ≡ k = omega arith in
    let above = rw (some, e) at low in
    omega arith

-- a rising list stays so by a number that may stand behind it
pub rising_behind : (xs : List ℕ) (x : ℕ) → IsStrictlyIncreasing xs → least_behind xs ≤ x → IsStrictlyIncreasing (xs ++ x ∷ [])
rising_behind xs x rising low = rising_push xs x rising (λ k last. least_above xs k x last low)

-- how many places before one aren't read
abbrev pub unread_before : Gap → ℕ → ℕ
unread_before g at = min at g.to - min at g.from

pub count_outside : (g : Gap) (at n : ℕ) → g.from ≤ g.to → is_outside g at ≡ true → n + unread_before g at ≡ at → (n + 1) + unread_before g (at + 1) ≡ at + 1
count_outside g at n forth test before = grind (arith, nat_tests)

pub count_inside : (g : Gap) (at n : ℕ) → is_outside g at ≡ false → n + unread_before g at ≡ at → n + unread_before g (at + 1) ≡ at + 1
count_inside g at n test before = grind (arith, nat_tests)
