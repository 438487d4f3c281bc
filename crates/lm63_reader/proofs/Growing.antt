-- Lists of angles and of values that grow by one.
use Rattle.std.proofs.Common.{◌≡◌, ℕ, ◌+◌, ◌-◌, ◌≤◌, false, List, [], ◌∷◌, ◌^◌, ◌++◌, refl, arith, eqb}
use Rattle.std.specs.Prelude.{All}
use Rattle.std.specs.List.Sorted.{IsStrictlyIncreasing}
use Rattle.std.proofs.lemmas.Bool.{ne_eqb}
use Rattle.std.proofs.lemmas.List.Elements.{All-push}
use Rattle.laws.proofs.Ranges.{map-more}
use Rattle.laws.proofs.Rising.{rising_push}
use Rattle.lux_lines.specs.Places.{Piece}
use Rattle.lm63_reader.specs.Fields.{number_at}
use Rattle.lm63_reader.specs.Angles.{angle_at, angles, least_angle}
use Rattle.photo_numbers.specs.Intensities.{intensity_of}
use Rattle.lm63_reader.specs.Intensities.{intensities}

-- the angle after one is above it
pub least_more : (all : List Piece) (start at : ℕ) → least_angle all start (at + 1) ≡ angle_at all start at + 1
least_more all start at =
    let e : (at + 1) - 1 ≡ at = omega arith in
    let some : eqb (at + 1) 0 ≡ false = ne_eqb (at + 1) 0 (λ h. omega arith) in
    rw (some, e) refl

pub angles_more : (all : List Piece) (start at : ℕ) → angles all start (at + 1) ≡ angles all start at ++ angle_at all start at ∷ []
unfolding angles
angles_more all start at = map-more (angle_at all start) at

pub intensities_more : (factor : ℕ) (all : List Piece) (start at : ℕ) → intensities factor all start (at + 1) ≡ intensities factor all start at ++ intensity_of (10 ^ 9) factor (number_at all (start + at)) ∷ []
unfolding intensities
intensities_more factor all start at = map-more (λ (k : ℕ). intensity_of (10 ^ 9) factor (number_at all (start + k))) at

pub no_angles : (all : List Piece) (start : ℕ) → angles all start 0 ≡ []
unfolding angles
no_angles all start = refl

pub no_intensities : (factor : ℕ) (all : List Piece) (start : ℕ) → intensities factor all start 0 ≡ []
unfolding intensities
no_intensities factor all start = refl

-- a number above all of a rising list keeps it rising
pub rising_above : (xs : List ℕ) (least x : ℕ) → IsStrictlyIncreasing xs → All (λ y. y + 1 ≤ least) xs → least ≤ x → IsStrictlyIncreasing (xs ++ x ∷ [])
rising_above xs least x rising below low = rising_push xs x rising (λ k last. let small = below k 0 (omega arith) in omega arith)

-- a bound holds on, and on a greater number
pub below_push : (xs : List ℕ) (least x : ℕ) → All (λ y. y + 1 ≤ least) xs → least ≤ x → All (λ y. y + 1 ≤ x + 1) (xs ++ x ∷ [])
below_push xs least x below low = All-push (λ (y : ℕ). y + 1 ≤ x + 1) xs x (λ k d inside. let small = below k d inside in omega arith) (omega arith)
