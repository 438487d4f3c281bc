-- Rows without zeros stand for the shares that they were made of.
use Rattle.std.proofs.Common.{◌≡◌, ℕ, zero, suc, ◌+◌, ◌*◌, ◌<◌, ◌≤◌, List, [], ◌∷◌, ◌++◌, length, get_or, take, drop, map, refl, sym, ap, subst, ◌∙◌, arith}
use Rattle.std.specs.List.{flat_map, range_with_len}
use Rattle.std.proofs.lemmas.List.{map-id, append-nil, append_assoc, take_all, drop_all, take-append-drop, take-take, drop-take, length-take, length-drop, get_or-take, get_or-drop}
use Rattle.std.proofs.lemmas.List.FromFn.{length-map-range_with_len, get_or-map-range_with_len, map-range_with_len_more, fill_by_all}
use Rattle.std.proofs.lemmas.List.Concat.{flat_map-append}
use Rattle.std.proofs.lemmas.List.Folds.{flat_map-map}
use Rattle.flux_system.specs.declared.entries.Entry.{Entry}
use Rattle.flux_system.specs.System.{FluxSystem, patches, share, share_row}
use Rattle.std.specs.Prelude.{slice_index}
use Rattle.flux_system.specs.Entries.{entry_of, entries_below, row_entries, column_entries, all_rows}
use Rattle.flux_system.specs.Shapes.{share_in, shares_in_rows}
use Rattle.flux_system.proofs.WithoutZeros.{share_in-below, entries-same}

-- numbers one after another, with the next
range-more : (n : ℕ) → range_with_len 0 (n + 1) ≡ range_with_len 0 n ++ n ∷ []
range-more n = sym (map-id (range_with_len 0 (n + 1))) ∙ (map-range_with_len_more (λ (k : ℕ). k) 0 n n (omega arith) ∙ ap (λ (ks : List ℕ). ks ++ n ∷ []) (map-id (range_with_len 0 n)))

pub range-same : {X : Type 0} (n : ℕ) (f g : ℕ → X) → ((k : ℕ) → k < n → f k ≡ g k) → map f (range_with_len 0 n) ≡ map g (range_with_len 0 n)
range-same zero f g h = refl
range-same (suc n) f g h =
    let front = range-same n f g (λ k l. h k (omega arith)) in
    let last = h n (omega arith) in
    let both = map-range_with_len_more f 0 n n (omega arith) ∙ ((λ k. front k ++ last k ∷ []) ∙ sym (map-range_with_len_more g 0 n n (omega arith))) in
    let next : n + 1 ≡ suc n = omega arith in
    subst (λ (m : ℕ). map f (range_with_len 0 m) ≡ map g (range_with_len 0 m)) next both

-- a part of some numbers, from their places
pub part : (xs : List ℕ) (a n : ℕ) → a + n ≤ length xs → take n (drop a xs) ≡ map (λ j. get_or xs (a + j) 0) (range_with_len 0 n)
part xs a n inside =
    fill_by_all (λ (j : ℕ). get_or xs (a + j) 0) (take n (drop a xs)) n 0
    (let t = length-take n (drop a xs) in let d = length-drop a xs in omega arith)
    (λ k h. get_or-take n (drop a xs) k 0 (omega arith) ∙ get_or-drop a xs k 0)

-- the first m rows of n numbers, one after another
rows_joined : (xs : List ℕ) (n m : ℕ) → m * n ≤ length xs → flat_map (λ i. map (λ j. get_or xs (i * n + j) 0) (range_with_len 0 n)) (range_with_len 0 m) ≡ take (m * n) xs
rows_joined xs n zero h = let none : zero * n ≡ 0 = omega arith in ap (λ (k : ℕ). take k xs) (sym none)
rows_joined xs n (suc m) h =
    let row : ℕ → List ℕ = λ i. map (λ j. get_or xs (i * n + j) 0) (range_with_len 0 n) in
    let front = rows_joined xs n m (omega arith) in
    let last = part xs (m * n) n (omega arith) in
    let both = ap (flat_map row) (range-more m)
    ∙ (flat_map-append row (range_with_len 0 m) (m ∷ [])
    ∙ ((λ k. front k ++ (append-nil (row m) ∙ sym last) k) ∙ joined (m * n) n (suc m * n) (omega arith))) in
    let next : m + 1 ≡ suc m = omega arith in
    subst (λ (k : ℕ). flat_map row (range_with_len 0 k) ≡ take (suc m * n) xs) next both
  where
    joined : (a b c : ℕ) → c ≡ a + b → take a xs ++ take b (drop a xs) ≡ take c xs
    joined a b c is =
        rw is ((λ k. sym (take-take a (a + b) xs (omega arith)) k ++ sym (drop-take a b xs) k) ∙ take-append-drop a (take (a + b) xs))

pub rows_stand_for : (s : FluxSystem) (rows : List (List Entry)) → length s.shares ≡ patches s * patches s → rows ≡ all_rows s → shares_in_rows (patches s) rows ≡ s.shares
unfolding shares_in_rows row_entries
rows_stand_for s rows square is =
    let n = patches s in
    let dense : List Entry → List ℕ = λ entries. map (share_in entries) (range_with_len 0 n) in
    ap (flat_map dense) is
    ∙ (flat_map-map dense (row_entries s) (range_with_len 0 n)
    ∙ (ap (λ (f : ℕ → List ℕ). flat_map f (range_with_len 0 n)) (λ k i. range-same n (share_in (row_entries s i)) (share s i) (λ j h. share_in-below n (share s i) j h) k)
    ∙ (rows_joined s.shares n n (omega arith) ∙ take_all (n * n) s.shares (omega arith))))

-- a list for each patch, by its number
module _ {X : Type 0} (n : ℕ) (f : ℕ → X) (lists : List X) (are : lists ≡ map f (range_with_len 0 n)) where
  pub lists-length : length lists ≡ n
  lists-length = ap length are ∙ length-map-range_with_len f 0 n

  pub list-at : (i : ℕ) (d : X) → i < n → get_or lists i d ≡ f i
  list-at i d h = ap (λ (xs : List X). get_or xs i d) are ∙ get_or-map-range_with_len f 0 n i i d h (omega arith)

-- the entries of a row of shares
pub row-entries : (s : FluxSystem) (i : ℕ) (row : List ℕ) → row ≡ share_row s i → entries_below (length row) (slice_index row) ≡ row_entries s i
unfolding row_entries
row-entries s i row is =
    let long = lists-length (patches s) (share s i) row is in
    ap (λ (n : ℕ). entries_below n (slice_index row)) long ∙ entries-same (patches s) (slice_index row) (share s i) (λ j h. list-at (patches s) (share s i) row is j 0 h)

-- some columns of the first rows, with one row more
pub columns-more : (shares : ℕ → ℕ → ℕ) (w i : ℕ) (row : List ℕ) (before : List (List Entry)) → row ≡ map (shares i) (range_with_len 0 w)
    → before ≡ map (λ j. entries_below i (λ k. shares k j)) (range_with_len 0 w)
    → map (λ j. get_or before j [] ++ entry_of i (slice_index row j)) (range_with_len 0 (length row)) ≡ map (λ j. entries_below (i + 1) (λ k. shares k j)) (range_with_len 0 w)
columns-more shares w i row before is before_is =
    let next : suc i ≡ i + 1 = omega arith in
    let more = range-same w (λ j. get_or before j [] ++ entry_of i (slice_index row j)) (λ j. entries_below (suc i) (λ k. shares k j))
    (λ j h. (λ k. list-at w _ before before_is j [] h k ++ entry_of i (list-at w (shares i) row is j 0 h k))) in
    ap (λ (n : ℕ). map (λ j. get_or before j [] ++ entry_of i (slice_index row j)) (range_with_len 0 n)) (lists-length w (shares i) row is)
    ∙ (more ∙ ap (λ (m : ℕ). map (λ j. entries_below m (λ k. shares k j)) (range_with_len 0 w)) next)

-- the values from one place on, with those that follow
pub joined : {X : Type 0} (f g : ℕ → X) (a k b w : ℕ) → ((j : ℕ) → g (b + j) ≡ f (a + k + j)) → map f (range_with_len a k) ++ map g (range_with_len b w) ≡ map f (range_with_len a (k + w))
joined f g a k b zero same = append-nil (map f (range_with_len a k)) ∙ ap (λ (m : ℕ). map f (range_with_len a m)) (omega arith)
joined {X = X} f g a k b (suc w) same =
    let next : w + 1 ≡ suc w = omega arith in
    let step : k + w + 1 ≡ k + suc w = omega arith in
    ap (λ (m : ℕ). map f (range_with_len a k) ++ map g (range_with_len b m)) (sym next)
    ∙ (ap (λ (xs : List X). map f (range_with_len a k) ++ xs) (map-range_with_len_more g b w (b + w) refl)
    ∙ (sym (append_assoc (map f (range_with_len a k)) (map g (range_with_len b w)) (g (b + w) ∷ []))
    ∙ ((λ q. joined f g a k b w same q ++ same w q ∷ [])
    ∙ (sym (map-range_with_len_more f a (k + w) (a + k + w) (omega arith)) ∙ ap (λ (m : ℕ). map f (range_with_len a m)) step))))

-- the columns so far, with those of a group
pub columns-joined : (s : FluxSystem) (first done more : ℕ)
    → map (column_entries s) (range_with_len first done) ++ map (λ j. entries_below (patches s) (λ i. share s i (first + done + j))) (range_with_len 0 more) ≡ map (column_entries s) (range_with_len first (done + more))
unfolding column_entries
columns-joined s first done more = joined (column_entries s) (λ j. entries_below (patches s) (λ i. share s i (first + done + j))) first done 0 more (λ j. ap (λ (k : ℕ). entries_below (patches s) (λ i. share s i (first + done + k))) (omega arith))

-- what a part that was lent leaves in the whole, where it is the whole
pub all_written : {X : Type 0} (len : ℕ) (new old : List X) → length new ≡ length old → length old ≡ len → take len (new ++ drop (length new) old) ≡ new
all_written {X = X} len new old same is =
    ap (λ (rest : List X). take len (new ++ rest)) (drop_all (length new) old (omega arith)) ∙ (ap (take len) (append-nil new) ∙ take_all len new (omega arith))
