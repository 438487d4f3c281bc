-- The web of stored planes is valid.
use Rattle.std.proofs.Common.{◌≡◌, ℕ, suc, ◌+◌, ◌-◌, ◌*◌, ◌<◌, ◌≤◌, true, eqb, leb, List, [], ◌∷◌, length, drop, Option, Some, None, refl, sym, ap, ◌∙◌, arith}
use Rattle.std.specs.Prelude.{slice_index, unwrap_or, filter}
use Rattle.std.specs.List.{All, range_with_len, flat_map, list_any}
use Rattle.std.specs.List.Sorted.{IsStrictlyIncreasing}
use Rattle.std.proofs.lemmas.Bool.{eqb-true, and_parts, cond-true, or_right}
use Rattle.std.proofs.lemmas.List.{get_or_read, length-append, length-take, length-drop, get_or_push, length_push}
use Rattle.std.proofs.lemmas.List.Elements.{All-append, All-take, All-drop, All-nil}
use Rattle.std.proofs.lemmas.List.Folds.{list_any_at, Any-from_list_any}
use Rattle.std.proofs.lemmas.List.FromFn.{get_or-range_with_len, length-range_with_len}
use Rattle.std.proofs.lemmas.List.Kept.{IsStrictlyIncreasing-filter}
use Rattle.std.proofs.lemmas.List.Quantifiers.{position-Some}
use Rattle.std.proofs.lemmas.Nat.{mul-le}
use Rattle.photo_web.specs.declared.photometry.SymKind.{SymKind}
use Rattle.photo_web.specs.declared.photometry.SymKind.TheVariants.{Axis, Quadrant, Plane0, Plane90, Full}
use Rattle.photo_web.specs.Web.{row_values}
use Rattle.photo_web.specs.Validity.{ArePlanes, AreGammas, IsWeb}
use Rattle.symmetry.specs.Images.{spans, has_span, is_image, is_plane, planes_below, planes_of, source, stored_place, expansion}
use Rattle.symmetry.specs.Growth.{IsGrown}
use Rattle.symmetry.proofs.Images.{closes}
use Rattle.symmetry.proofs.Growth.{planes_hit}

starts : (from to : ℕ) (stored : List ℕ) → spans from to stored ≡ true → slice_index stored 0 ≡ from
starts from to stored span = eqb-true (slice_index stored 0) from (and_parts (eqb (slice_index stored 0) from) (eqb (slice_index stored (length stored - 1)) to) span).0

starts_full : (stored : List ℕ) → has_span Full stored ≡ true → slice_index stored 0 ≡ 0
starts_full stored span = eqb-true (slice_index stored 0) 0 (and_parts (eqb (slice_index stored 0) 0) (leb (slice_index stored (length stored - 1)) 360000) span).0

-- a plane whose image is at 0 makes one there
zero_from : (kind : SymKind) (stored : List ℕ) (k angle : ℕ) → k < length stored → slice_index stored k ≡ angle → is_image kind 0 angle ≡ true → is_plane kind stored 0 ≡ true
zero_from kind stored k angle inside is image = or_right (eqb 0 360000) (list_any (is_image kind 0) stored) (list_any_at (is_image kind 0) stored k 0 inside (ap (is_image kind 0) is ∙ image))

-- there is a plane at 0
plane_at_zero : (kind : SymKind) (stored : List ℕ) → 1 ≤ length stored → has_span kind stored ≡ true → is_plane kind stored 0 ≡ true
plane_at_zero Axis stored some span = zero_from Axis stored 0 (slice_index stored 0) some refl refl
plane_at_zero Quadrant stored some span = zero_from Quadrant stored 0 0 some (starts 0 90000 stored span) refl
plane_at_zero Plane0 stored some span = zero_from Plane0 stored 0 0 some (starts 0 180000 stored span) refl
plane_at_zero Plane90 stored some span =
    let half = Any-from_list_any (λ (angle : ℕ). eqb angle 180000) stored (and_parts (spans 90000 270000 stored) (list_any (λ (angle : ℕ). eqb angle 180000) stored) span).1 in
    zero_from Plane90 stored half.0 180000 half.2 (sym (get_or_read stored half.0 half.1 half.2 (sym half.3) 0) ∙ eqb-true half.1 180000 half.4) refl
plane_at_zero Full stored some span = zero_from Full stored 0 0 some (starts_full stored span) refl

module _ (kind : SymKind) (stored : List ℕ) where
  rising_below : (n : ℕ) → IsStrictlyIncreasing (planes_below n kind stored)
  unfolding planes_below
  rising_below n = IsStrictlyIncreasing-filter (is_plane kind stored) (range_with_len 0 n) up
    where
      up : IsStrictlyIncreasing (range_with_len 0 n)
      up k h =
          let long = length-range_with_len 0 n in
          let here = get_or-range_with_len 0 n k 0 (omega arith) in
          let next = get_or-range_with_len 0 n (k + 1) 0 (omega arith) in
          omega arith

  first_below : (n : ℕ) → is_plane kind stored 0 ≡ true → (slice_index (planes_below (suc n) kind stored) 0 ≡ 0) × (1 ≤ length (planes_below (suc n) kind stored))
  unfolding planes_below
  first_below n zero_is =
      let e = cond-true (is_plane kind stored 0) (0 ∷ filter (is_plane kind stored) (range_with_len (0 + 1) n)) (filter (is_plane kind stored) (range_with_len (0 + 1) n)) zero_is in
      (ap (λ (xs : List ℕ). slice_index xs 0) e, let long = ap length e in omega arith)

  valid_planes : 1 ≤ length stored → has_span kind stored ≡ true → length (planes_of kind stored) ≤ 1441 → ArePlanes (planes_of kind stored)
  valid_planes some span few =
      let zero_is = plane_at_zero kind stored some span in
      let last = planes_hit kind stored 360000 (closes kind stored) in
      let first = first_below 360000 zero_is in
      let early = first_below 359999 zero_is in
      let long = ap length last ∙ length_push (planes_below 360000 kind stored) 360000 in
      record {
        some = omega (arith, early.1);
        few = few;
        start = first.0;
        rising = rising_below 360001;
        close = ap (λ (xs : List ℕ). slice_index xs (length (planes_of kind stored) - 1)) last ∙ get_or_push (planes_below 360000 kind stored) 360000 0 (length (planes_of kind stored) - 1) (omega arith);
      }

  place_lt : (a : ℕ) → 1 ≤ length stored → stored_place kind stored a < length stored
  place_lt a some = within (source kind stored a) (source kind stored 0) (λ k e. (position-Some (is_image kind a) stored k 0 e).0) (λ k e. (position-Some (is_image kind 0) stored k 0 e).0)
    where
      within : (o other : Option ℕ) → ((k : ℕ) → o ≡ Some k → k < length stored) → ((k : ℕ) → other ≡ Some k → k < length stored) → unwrap_or o (unwrap_or other 0) < length stored
      within (Some k) other here there = here k refl
      within None (Some k) here there = there k refl
      within None None here there = some

-- a row has its width
row_length : (width n : ℕ) (rows : List ℕ) (k : ℕ) → length rows ≡ n * width → k < n → length (row_values width rows k) ≡ width
row_length width n rows k count h =
    let most = mul-le (k + 1) width n width (omega arith) (omega arith) in
    let t = length-take width (drop (k * width) rows) in
    let d = length-drop (k * width) rows in
    omega arith

rows_length : (f : ℕ → List ℕ) (width : ℕ) (xs : List ℕ) → ((a : ℕ) → length (f a) ≡ width) → length (flat_map f xs) ≡ length xs * width
rows_length f width [] each = omega arith
rows_length f width (x ∷ xs) each =
    let rest = rows_length f width xs each in
    let e = length-append (f x) (flat_map f xs) in
    let here = each x in
    omega arith

All-flat_map : (P : ℕ → Type 0) (f : ℕ → List ℕ) (xs : List ℕ) → ((a : ℕ) → All P (f a)) → All P (flat_map f xs)
All-flat_map P f [] each = All-nil P
All-flat_map P f (x ∷ xs) each = All-append P (f x) (flat_map f xs) (each x) (All-flat_map P f xs each)

pub valid_expansion : (kind : SymKind) (stored gammas rows : List ℕ) → 1 ≤ length stored → has_span kind stored ≡ true → length (planes_of kind stored) ≤ 1441 → AreGammas gammas → length rows ≡ length stored * length gammas → All (λ value. value ≤ 1000000000000000) rows → IsWeb (expansion kind stored gammas rows)
unfolding expansion
valid_expansion kind stored gammas rows some span few are count limited =
    record {
      planes = valid_planes kind stored some span few;
      gammas = are;
      count = rows_length (λ (a : ℕ). row_values (length gammas) rows (stored_place kind stored a)) (length gammas) (planes_of kind stored)
          (λ a. row_length (length gammas) (length stored) rows (stored_place kind stored a) count (place_lt kind stored a some));
      limited = All-flat_map (λ (value : ℕ). value ≤ 1000000000000000) (λ (a : ℕ). row_values (length gammas) rows (stored_place kind stored a)) (planes_of kind stored)
          (λ a. All-take (λ (value : ℕ). value ≤ 1000000000000000) (length gammas) (drop (stored_place kind stored a * length gammas) rows) (All-drop (λ (value : ℕ). value ≤ 1000000000000000) (stored_place kind stored a * length gammas) rows limited));
    }

-- what has grown past a full turn is the whole web
pub grown_web : (kind : SymKind) (stored gammas rows planes copied values : List ℕ) → copied ≡ gammas → IsGrown 360001 kind stored rows (length gammas) planes values → record { planes = planes; gammas = copied; values = values } ≡ expansion kind stored gammas rows
unfolding expansion
grown_web kind stored gammas rows planes copied values same grown = λ k. record { planes = grown.planes_are k; gammas = same k; values = grown.values_are k }
