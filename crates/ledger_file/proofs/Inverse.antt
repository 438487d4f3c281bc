-- A ledger's text is read as this ledger.
use Rattle.std.proofs.Common.{◌≡◌, ℕ, zero, suc, ◌+◌, ◌<◌, ◌≤◌, ◌^◌, ◌==◌, ◌&&◌, true, List, [], ◌∷◌, ◌++◌, None, map, length, slice_index, get_or, refl, sym, ap, ◌∙◌, arith, codes}
use Rattle.std.specs.Prelude.{bytes_eq, nat_le, nat_lt}
use Rattle.std.specs.Fmt.{decimal}
use Rattle.std.specs.List.{list_all, range_with_len}
use Rattle.std.proofs.lemmas.Bool.Decides.{nat_tests}
use Rattle.std.proofs.lemmas.List.{length-append, get_or-append-add, get_or_append_left}
use Rattle.std.proofs.lemmas.List.Folds.{list_all-append}
use Rattle.std.proofs.lemmas.List.FromFn.{get_or-map-range_with_len, length-map-range_with_len}
use Rattle.std.proofs.lemmas.Option.{unwrap_or-slice_get}
use Rattle.duties.specs.Duties.{Duty, first, each}
use Rattle.duties.proofs.Orders.{this_met, none_left, unless_holds, each_none, each_more}
use Rattle.flux_system.specs.declared.TheConstants.{MOST_PATCHES}
use Rattle.flux_ledger.specs.declared.ledger.Ledger.{Ledger}
use Rattle.lux_lines.specs.Lines.{lines, line_text}
use Rattle.lux_lines.specs.Words.{words}
use Rattle.ledger_file.specs.Forms.{count_form, patch_form, have_form, numbers_of, line_numbers}
use Rattle.ledger_file.specs.LedgerFiles.{IsWritable, patch_count, win_count, part_count, patch_number, patch_numbers, patch_duty, head_duties, ledger_in}
use Rattle.ledger_file.proofs.Joined.{is_plain, ArePlainLines, joined, line_count, line_is}
use Rattle.ledger_file.proofs.LineWords.{is_solid, AreSmall, plain_count, plain_patch, count_fits, count_says, patch_fits, patch_says}
use Rattle.ledger_file.proofs.Reading.{line_passes}
use Rattle.ledger_file.proofs.Written.{patch_text, ledger_lines}

-- where each is met, all are
all_met : {F : Type 0} (duty : ℕ → Duty F) (n : ℕ) → ((j : ℕ) → j < n → duty j ≡ None) → each n duty ≡ None
all_met duty zero met = each_none duty
all_met duty (suc n) met =
    let e : n + 1 ≡ suc n = omega arith in
    ap (λ (k : ℕ). each k duty) (sym e) ∙ (each_more duty n (all_met duty n (λ j inside. met j (omega arith))) ∙ met n (omega arith))

-- numbers one by one
one_by_one : (value : ℕ → ℕ) (numbers : List ℕ) (start n : ℕ) → length numbers ≡ n → ((j : ℕ) → j < n → value (start + j) ≡ slice_index numbers j) → map value (range_with_len start n) ≡ numbers
one_by_one value [] start zero len same = refl
one_by_one value [] start (suc n) len same = absurd (omega (arith, len))
one_by_one value (x ∷ numbers) start zero len same = absurd (omega (arith, len))
one_by_one value (x ∷ numbers) start (suc n) len same =
    let e : start + 0 ≡ start = omega arith in
    let here : value start ≡ x = ap value (sym e) ∙ same 0 (omega arith) in
    let behind = one_by_one value numbers (start + 1) n (omega (arith, len)) (λ j inside. let f : (start + 1) + j ≡ start + suc j = omega arith in ap value f ∙ same (suc j) (omega arith)) in
    λ k. here k ∷ behind k

-- the text of a ledger, and perhaps lines behind it
module _ (l : Ledger) (w : IsWritable l) (others : List (List ℕ)) (plain : ArePlainLines others) where
  abbrev n : ℕ
  n = length l.direct

  abbrev all : List (List ℕ)
  all = ledger_lines l ++ others

  abbrev text : List ℕ
  text = joined all

  few : n < 2 ^ 64
  few = omega (arith, w.few)

  small : (j : ℕ) → j < n → AreSmall l j
  small j inside = record {
    patch = omega (arith, few);
    direct = w.direct j 0 inside;
    taken = w.taken j 0 (omega (arith, w.lengths.of_taken));
    residual = w.residual j 0 (omega (arith, w.lengths.of_residual));
    err = w.err j 0 (omega (arith, w.lengths.of_err));
  }

  parts_small : l.parts < 2 ^ 64
  parts_small = omega (arith, w.parts)

  plain_patches : (start k : ℕ) → start + k ≤ n → list_all (list_all is_plain) (map (patch_text l) (range_with_len start k)) ≡ true
  plain_patches start zero within = refl
  plain_patches start (suc k) within = rw (plain_patch l start (small start (omega arith)), plain_patches (start + 1) k (omega arith)) refl

  all_plain : ArePlainLines all
  all_plain =
      list_all-append (list_all is_plain) (ledger_lines l) others
      ∙ rw (plain_count (codes "patches ") n few refl, plain_count (codes "wins ") l.wins w.wins refl, plain_count (codes "parts ") l.parts parts_small refl, plain_patches 0 n (omega arith), plain) refl

  pub count : length (lines text) ≡ 4 + n + length others
  count =
      line_count all all_plain ∙ (length-append (ledger_lines l) others
      ∙ (let lines_len = length-map-range_with_len (patch_text l) 0 n in omega (arith, lines_len)))

  line_at : (k : ℕ) → line_text text k ≡ get_or all k []
  line_at k = line_is all all_plain k ∙ unwrap_or-slice_get all k []

  abbrev front : List (List ℕ)
  front = codes "lux-ledger 1" ∷ (codes "patches " ++ decimal n) ∷ (codes "wins " ++ decimal l.wins) ∷ (codes "parts " ++ decimal l.parts) ∷ []

  pub patch_at : (j : ℕ) → j < n → line_text text (4 + j) ≡ patch_text l j
  patch_at j inside =
      let patches = map (patch_text l) (range_with_len 0 n) in
      let len = length-map-range_with_len (patch_text l) 0 n in
      line_at (4 + j)
      ∙ (get_or-append-add front (patches ++ others) j []
      ∙ (get_or_append_left patches others [] j (omega (arith, len)) ∙ get_or-map-range_with_len (patch_text l) 0 n j j [] inside (omega arith)))

  -- a line that is a count
  module _ (keyword : List ℕ) (k number : ℕ) (within : k < 4) (here : get_or all k [] ≡ keyword ++ 32 ∷ decimal number) (fits64 : number < 2 ^ 64) (solid : list_all is_solid keyword ≡ true) (same : bytes_eq keyword keyword ≡ true) where
    count_form_is : have_form (count_form keyword) (words (line_text text k)) ≡ true
    count_form_is = ap (λ (t : List ℕ). have_form (count_form keyword) (words t)) (line_at k ∙ here) ∙ count_fits keyword number fits64 solid same

    count_is : slice_index (line_numbers (count_form keyword) text k) 0 ≡ number
    unfolding line_numbers
    count_is = ap (λ (t : List ℕ). slice_index (numbers_of (count_form keyword) (words t)) 0) (line_at k ∙ here) ∙ ap (λ (ns : List ℕ). slice_index ns 0) (count_says keyword number fits64 solid same)

  -- ---- the first four lines

  header : bytes_eq (line_text text 0) (codes "lux-ledger 1") ≡ true
  header = ap (λ (t : List ℕ). bytes_eq t (codes "lux-ledger 1")) (line_at 0)

  pub patch_count_is : patch_count text ≡ n
  patch_count_is = count_is (codes "patches") 1 n (omega arith) refl few refl refl

  pub win_count_is : win_count text ≡ l.wins
  win_count_is = count_is (codes "wins") 2 l.wins (omega arith) refl w.wins refl refl

  pub part_count_is : part_count text ≡ l.parts
  part_count_is = count_is (codes "parts") 3 l.parts (omega arith) refl parts_small refl refl

  pub head_met : first (head_duties text) ≡ None
  unfolding head_duties
  head_met =
      let patches = line_passes text 1 _ (omega (arith, count)) (count_form_is (codes "patches") 1 n (omega arith) refl few refl refl) in
      let sized : (nat_le 1 (patch_count text) && nat_le (patch_count text) MOST_PATCHES) ≡ true = rw patch_count_is (let some = w.some in let most = w.few in grind (arith, nat_tests)) in
      let wins = line_passes text 2 _ (omega (arith, count)) (count_form_is (codes "wins") 2 l.wins (omega arith) refl w.wins refl refl) in
      let few_parts : nat_lt (part_count text) (2 ^ 32) ≡ true = rw part_count_is (let most = w.parts in grind (arith, nat_tests)) in
      let parts = line_passes text 3 _ (omega (arith, count)) (rw (count_form_is (codes "parts") 3 l.parts (omega arith) refl parts_small refl refl, few_parts) refl) in
      this_met _ _ (unless_holds _ _ header) ∙ (this_met _ _ patches ∙ (this_met _ _ (unless_holds _ _ sized) ∙ (this_met _ _ wins ∙ (this_met _ _ parts ∙ none_left))))

  -- ---- the lines of the patches

  numbers_at : (j : ℕ) → j < n → line_numbers patch_form text (4 + j) ≡ j ∷ slice_index l.direct j ∷ slice_index l.taken j ∷ slice_index l.residual j ∷ slice_index l.err j ∷ []
  unfolding line_numbers
  numbers_at j inside = ap (λ (t : List ℕ). numbers_of patch_form (words t)) (patch_at j inside) ∙ patch_says l j (small j inside)

  patch_met : (j : ℕ) → j < n → patch_duty text j ≡ None
  patch_met j inside =
      let fits = ap (λ (t : List ℕ). have_form patch_form (words t)) (patch_at j inside) ∙ patch_fits l j (small j inside) in
      let number : patch_number text 0 j ≡ j = ap (λ (ns : List ℕ). slice_index ns 0) (numbers_at j inside) in
      let same : (j == j) ≡ true = grind (arith, nat_tests) in
      line_passes text (4 + j) _ (omega (arith, count)) (rw (fits, number, same) refl)

  pub patches_met : each n (patch_duty text) ≡ None
  patches_met = all_met (patch_duty text) n patch_met

  numbers_are : (place : ℕ) (numbers : List ℕ) → length numbers ≡ n → ((j : ℕ) → j < n → slice_index (j ∷ slice_index l.direct j ∷ slice_index l.taken j ∷ slice_index l.residual j ∷ slice_index l.err j ∷ []) place ≡ slice_index numbers j)
      → patch_numbers text n place ≡ numbers
  unfolding patch_numbers
  numbers_are place numbers len same =
      one_by_one (patch_number text place) numbers 0 n len (λ j inside. let e : 0 + j ≡ j = omega arith in ap (patch_number text place) e ∙ (ap (λ (ns : List ℕ). slice_index ns place) (numbers_at j inside) ∙ same j inside))

  pub ledger_is : ledger_in text n ≡ l
  unfolding ledger_in
  ledger_is =
      let direct = numbers_are 1 l.direct refl (λ j inside. refl) in
      let taken = numbers_are 2 l.taken w.lengths.of_taken (λ j inside. refl) in
      let residual = numbers_are 3 l.residual w.lengths.of_residual (λ j inside. refl) in
      let err = numbers_are 4 l.err w.lengths.of_err (λ j inside. refl) in
      λ k. record { direct = direct k; taken = taken k; residual = residual k; err = err k; parts = part_count_is k; wins = win_count_is k }
