-- The files as they are read, in the order of their first naming.
use Rattle.std.proofs.Common.{◌≡◌, ℕ, zero, suc, ◌+◌, ◌<◌, ◌≤◌, ◌&&◌, Bool, true, false, List, [], ◌∷◌, ◌++◌, length, Bor, refl, ap, ◌∙◌, sym, inl, inr, true≢false, get_or, take, length-append, arith}
use Rattle.std.proofs.lemmas.List.{take_more}
use Rattle.std.specs.Prelude.{nat_le}
use Rattle.std.specs.List.{list_any, position_or_len}
use Rattle.std.specs.Str.{bytes_eq}
use Rattle.std.proofs.lemmas.Bool.{cases_Bool, and_parts}
use Rattle.std.proofs.lemmas.Slice.Eq.{bytes_eq-Decides}
use Rattle.indexmap.specs.IndexSet.{insert_key}
use Rattle.project_file.specs.Shapes.{texts, are_names, with_file}

any_texts : (test : List ℕ → Bool) (ks : List (Bor (List ℕ))) → list_any test (texts ks) ≡ list_any (λ k. test k.now) ks
any_texts test [] = refl
any_texts test (k ∷ ks) = rw (any_texts test ks)

texts_more : (ks : List (Bor (List ℕ))) (k : Bor (List ℕ)) → texts (ks ++ k ∷ []) ≡ texts ks ++ k.now ∷ []
texts_more [] k = refl
texts_more (x ∷ ks) k = ap (λ (names : List (List ℕ)). x.now ∷ names) (texts_more ks k)

position_texts : (test : List ℕ → Bool) (ks : List (Bor (List ℕ))) → position_or_len test (texts ks) ≡ position_or_len (λ k. test k.now) ks
position_texts test [] = refl
position_texts test (k ∷ ks) = rw (position_texts test ks)

-- the files after an insertion
pub texts_insert : (ks : List (Bor (List ℕ))) (k : Bor (List ℕ)) → texts (insert_key (λ x y. bytes_eq x.now y.now) ks k) ≡ with_file (texts ks) k.now
texts_insert ks k =
    elim (cases_Bool (list_any (λ x. bytes_eq k.now x.now) ks)) [
      | inl there ↦ rw (there, any_texts (bytes_eq k.now) ks, there)
      | inr new ↦ rw (new, any_texts (bytes_eq k.now) ks, new) (texts_more ks k)
    ]

pub any_front : {X : Type 0} (test : X → Bool) (files more : List X) → list_any test files ≡ true → list_any test (files ++ more) ≡ true
any_front test [] more h = absurd (true≢false (sym h))
any_front test (f ∷ files) more h =
    elim (cases_Bool (test f)) [
      | inl here ↦ rw here
      | inr not_here ↦ rw not_here (any_front test files more (rw not_here at h))
    ]

pub any_last : {X : Type 0} (test : X → Bool) (files : List X) (f : X) → test f ≡ true → list_any test (files ++ f ∷ []) ≡ true
any_last test [] f h = rw h
any_last test (x ∷ files) f h =
    elim (cases_Bool (test x)) [
      | inl here ↦ rw here
      | inr not_here ↦ rw not_here (any_last test files f h)
    ]

-- a file that is among some files has its place there, whatever is named later
pub position_kept : (test : List ℕ → Bool) (files more : List (List ℕ)) → list_any test files ≡ true → position_or_len test (files ++ more) ≡ position_or_len test files
position_kept test [] more h = cc
position_kept test (f ∷ files) more h =
    elim (cases_Bool (test f)) [
      | inl here ↦ rw here
      | inr not_here ↦ rw not_here (ap (λ (n : ℕ). 1 + n) (position_kept test files more (rw not_here at h)))
    ]

position_new : (test : Bor (List ℕ) → Bool) (ks : List (Bor (List ℕ))) (k : Bor (List ℕ)) → test k ≡ true → list_any test ks ≡ false → position_or_len test (ks ++ k ∷ []) ≡ position_or_len test ks
position_new test [] k passes h = rw passes
position_new test (x ∷ ks) k passes h =
    elim (cases_Bool (test x)) [
      | inl here ↦ absurd (true≢false (rw here at h))
      | inr not_here ↦ rw not_here (ap (λ (n : ℕ). 1 + n) (position_new test ks k passes (rw not_here at h)))
    ]

-- the place of an inserted file is the place that it is given
pub place_insert : (ks : List (Bor (List ℕ))) (k : Bor (List ℕ)) → position_or_len (λ x. bytes_eq k.now x.now) ks ≡ position_or_len (bytes_eq k.now) (texts (insert_key (λ x y. bytes_eq x.now y.now) ks k))
place_insert ks k =
    elim (cases_Bool (list_any (λ x. bytes_eq k.now x.now) ks)) [
      | inl there ↦ rw there (sym (position_texts (bytes_eq k.now) ks))
      | inr new ↦ rw new (sym (position_texts (bytes_eq k.now) (ks ++ k ∷ []) ∙ position_new (λ x. bytes_eq k.now x.now) ks k ((bytes_eq-Decides k.now k.now).1 refl) new))
    ]

-- a text at a place of a list of names is a name
pub name_at : (ks : List (Bor (List ℕ))) (i : ℕ) (d : Bor (List ℕ)) → are_names (texts ks) ≡ true → i < length ks → are_names ((get_or ks i d).now ∷ []) ≡ true
name_at [] i d h inside = absurd (omega arith)
name_at (k ∷ ks) zero d h inside =
    let here : (nat_le 1 (length k.now) && nat_le (length k.now) 255) ≡ true = (and_parts _ _ h).0 in rw here
name_at (k ∷ ks) (suc i) d h inside = name_at ks i d (and_parts _ _ h).1 (omega arith)

-- the texts of one more
pub texts_take : (ks : List (Bor (List ℕ))) (i : ℕ) (d : Bor (List ℕ)) → i < length ks → texts (take (i + 1) ks) ≡ texts (take i ks) ++ (get_or ks i d).now ∷ []
texts_take ks i d inside = rw (take_more ks i d inside) (texts_more (take i ks) (get_or ks i d))

-- what is among some files stays among them, at its place
pub among_more : (test : List ℕ → Bool) (files : List (List ℕ)) (f : List ℕ) → list_any test files ≡ true → list_any test (with_file files f) ≡ true
among_more test files f h =
    elim (cases_Bool (list_any (bytes_eq f) files)) [
      | inl there ↦ rw (there, h)
      | inr new ↦ rw new (any_front test files (f ∷ []) h)
    ]

pub place_more : (test : List ℕ → Bool) (files : List (List ℕ)) (f : List ℕ) → list_any test files ≡ true → position_or_len test (with_file files f) ≡ position_or_len test files
place_more test files f h =
    elim (cases_Bool (list_any (bytes_eq f) files)) [
      | inl there ↦ rw there
      | inr new ↦ rw new (position_kept test files (f ∷ []) h)
    ]

-- a file is among the files that it was put to
pub among_itself : (files : List (List ℕ)) (f : List ℕ) → list_any (bytes_eq f) (with_file files f) ≡ true
among_itself files f =
    elim (cases_Bool (list_any (bytes_eq f) files)) [
      | inl there ↦ rw (there, there)
      | inr new ↦ rw new (any_last (bytes_eq f) files f ((bytes_eq-Decides f f).1 refl))
    ]

-- the place of what is among some files is one of them
pub place_within : (test : List ℕ → Bool) (files : List (List ℕ)) → list_any test files ≡ true → position_or_len test files < length files
place_within test [] h = absurd (true≢false (sym h))
place_within test (f ∷ files) h =
    elim (cases_Bool (test f)) [
      | inl here ↦ rw here (omega arith)
      | inr not_here ↦ rw not_here (let later = place_within test files (rw not_here at h) in omega arith)
    ]

-- a file that isn't among some files comes behind them
place_behind : (test : List ℕ → Bool) (files : List (List ℕ)) (f : List ℕ) → test f ≡ true → list_any test files ≡ false → position_or_len test (files ++ f ∷ []) ≡ length files
place_behind test [] f passes h = rw passes
place_behind test (x ∷ files) f passes h =
    elim (cases_Bool (test x)) [
      | inl here ↦ absurd (true≢false (rw here at h))
      | inr not_here ↦ rw not_here (let later = place_behind test files f passes (rw not_here at h) in omega arith)
    ]

-- where a file brought a new place, it has that place
pub place_of_new : (files : List (List ℕ)) (f : List ℕ) (j : ℕ) → length files ≤ j → j < length (with_file files f) → position_or_len (bytes_eq f) (with_file files f) ≡ j
place_of_new files f j past inside =
    elim (cases_Bool (list_any (bytes_eq f) files)) [
      | inl there ↦ absurd (let same : j < length files = rw there at inside in omega arith)
      | inr new ↦
          let longer : j < length (files ++ f ∷ []) = rw new at inside in
          rw new (let at = place_behind (bytes_eq f) files f ((bytes_eq-Decides f f).1 refl) new in omega (arith, length-append files (f ∷ [])))
    ]
