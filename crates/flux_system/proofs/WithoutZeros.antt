-- What lists without zeros say: their patches rise, their shares aren't 0, and no share that isn't 0 is missing.
use Rattle.std.proofs.Common.{◌≡◌, ℕ, zero, suc, ◌<◌, ◌≤◌, cond, eqb, List, [], ◌∷◌, ◌++◌, length, get_or, refl, sym, ap, subst, ◌∙◌, arith, ⊎_elim}
use Rattle.std.proofs.lemmas.Bool.{cond-true, cond-false, eq-eqb, ne_eqb, cases_lt}
use Rattle.std.proofs.lemmas.List.{append-nil, length_push, get_or_push, get_or_append_left}
use Rattle.std.proofs.lemmas.List.Sums.{sum_by-append}
use mathlib.Core.Logic.{dite}
use native.Mathlib.Decide.{ℕ_discrete}
use Rattle.flux_system.specs.declared.entries.Entry.{Entry}
use Rattle.flux_system.specs.Entries.{entry_of, entries_below}
use Rattle.flux_system.specs.Shapes.{share_in}

pub entry_of-zero : (patch share : ℕ) → share ≡ 0 → entry_of patch share ≡ []
entry_of-zero patch share e = cond-true (eqb share 0) _ _ (eq-eqb _ _ e)

pub entry_of-some : (patch share : ℕ) → 0 < share → entry_of patch share ≡ record { patch = patch; share = share } ∷ []
entry_of-some patch share h = cond-false (eqb share 0) _ _ (ne_eqb _ _ (λ e. omega arith))

-- one more patch
pub entries-zero : (n : ℕ) (f : ℕ → ℕ) → f n ≡ 0 → entries_below (suc n) f ≡ entries_below n f
entries-zero n f e = ap (λ (es : List Entry). entries_below n f ++ es) (entry_of-zero n (f n) e) ∙ append-nil _

pub entries-some : (n : ℕ) (f : ℕ → ℕ) → 0 < f n → entries_below (suc n) f ≡ entries_below n f ++ record { patch = n; share = f n } ∷ []
entries-some n f h = ap (λ (es : List Entry). entries_below n f ++ es) (entry_of-some n (f n) h)

pub entries-same : (n : ℕ) (f g : ℕ → ℕ) → ((i : ℕ) → i < n → f i ≡ g i) → entries_below n f ≡ entries_below n g
entries-same zero f g h = refl
entries-same (suc n) f g h =
    let front = entries-same n f g (λ i l. h i (omega arith)) in
    let last = h n (omega arith) in
    λ k. front k ++ entry_of n (last k)

-- the share for a patch
share_in-one : (patch share j : ℕ) → share_in (entry_of patch share) j ≡ cond (eqb patch j) share 0
share_in-one patch share j =
    dite (ℕ_discrete share 0)
    (λ e. ap (λ (es : List Entry). share_in es j) (entry_of-zero patch share e) ∙ dite (ℕ_discrete patch j) (λ same. sym (cond-true _ _ _ (eq-eqb _ _ same) ∙ e)) (λ other. sym (cond-false _ _ _ (ne_eqb _ _ other))))
    (λ ne. ap (λ (es : List Entry). share_in es j) (entry_of-some patch share (omega arith)) ∙ omega arith)

pub share_in-past : (n : ℕ) (f : ℕ → ℕ) (j : ℕ) → n ≤ j → share_in (entries_below n f) j ≡ 0
share_in-past zero f j h = refl
share_in-past (suc n) f j h =
    let both = sum_by-append (λ (e : Entry). cond (eqb e.patch j) e.share 0) (entries_below n f) (entry_of n (f n)) in
    let front = share_in-past n f j (omega arith) in
    let last = share_in-one n (f n) j ∙ cond-false _ _ _ (ne_eqb n j (λ e. omega arith)) in
    omega arith

pub share_in-below : (n : ℕ) (f : ℕ → ℕ) (j : ℕ) → j < n → share_in (entries_below n f) j ≡ f j
share_in-below zero f j h = absurd (omega arith)
share_in-below (suc n) f j h =
    let both = sum_by-append (λ (e : Entry). cond (eqb e.patch j) e.share 0) (entries_below n f) (entry_of n (f n)) in
    let one = share_in-one n (f n) j in
    dite (ℕ_discrete j n)
    (λ e.
    let front = share_in-past n f j (omega arith) in
    let last = one ∙ cond-true _ _ _ (eq-eqb n j (sym e)) in
    let same : f j ≡ f n = ap f e in
    omega arith)
    (λ ne.
    let front = share_in-below n f j (omega arith) in
    let last = one ∙ cond-false _ _ _ (ne_eqb n j (λ e. ne (sym e))) in
    omega arith)

-- each entry
pub record IsEntryOf (n : ℕ) (f : ℕ → ℕ) (e : Entry) : Type 0 where
  pub inside : e.patch < n
  pub is : e.share ≡ f e.patch
  pub some : 0 < e.share

-- an entry of a list with one more patch stands in the list, or it is the last
module _ (n : ℕ) (f : ℕ → ℕ) (P : List Entry → Type 0) where
  pub with_one_more : (f n ≡ 0 → P (entries_below n f)) → (0 < f n → P (entries_below n f ++ record { patch = n; share = f n } ∷ [])) → P (entries_below (suc n) f)
  with_one_more none one =
      dite (ℕ_discrete (f n) 0)
      (λ e. subst P (sym (entries-zero n f e)) (none e))
      (λ ne. let some : 0 < f n = omega arith in subst P (sym (entries-some n f some)) (one some))

pub entry-at : (n : ℕ) (f : ℕ → ℕ) (k : ℕ) (d : Entry) → k < length (entries_below n f) → IsEntryOf n f (get_or (entries_below n f) k d)
entry-at zero f k d h = absurd (omega arith)
entry-at (suc n) f k d h = with_one_more n f (λ es. k < length es → IsEntryOf (suc n) f (get_or es k d))
    (λ e h. wider (get_or (entries_below n f) k d) (entry-at n f k d h))
    (λ some h.
    let last : Entry = record { patch = n; share = f n } in
    let long = length_push (entries_below n f) last in
    ⊎_elim
    (λ (front : k < length (entries_below n f)). subst (IsEntryOf (suc n) f) (sym (get_or_append_left (entries_below n f) (last ∷ []) d k front)) (wider (get_or (entries_below n f) k d) (entry-at n f k d front)))
    (λ (end : length (entries_below n f) ≤ k). subst (IsEntryOf (suc n) f) (sym (get_or_push (entries_below n f) last d k (omega arith))) (record { inside = omega arith; is = refl; some = some }))
    (cases_lt k (length (entries_below n f)))) h
  where
    wider : (e : Entry) → IsEntryOf n f e → IsEntryOf (suc n) f e
    wider e of = let inside = of.inside in record { inside = omega arith; is = of.is; some = of.some }

-- patches rise along a list
pub entries-rise : (n : ℕ) (f : ℕ → ℕ) (a b : ℕ) (d : Entry) → a < b → b < length (entries_below n f) → (get_or (entries_below n f) a d).patch < (get_or (entries_below n f) b d).patch
entries-rise zero f a b d h inside = absurd (omega arith)
entries-rise (suc n) f a b d h inside = with_one_more n f (λ es. b < length es → (get_or es a d).patch < (get_or es b d).patch)
    (λ e within. entries-rise n f a b d h within)
    (λ some within.
    let last : Entry = record { patch = n; share = f n } in
    let long = length_push (entries_below n f) last in
    let first : get_or (entries_below n f ++ last ∷ []) a d ≡ get_or (entries_below n f) a d = get_or_append_left (entries_below n f) (last ∷ []) d a (omega arith) in
    ⊎_elim
    (λ (front : b < length (entries_below n f)). let second = get_or_append_left (entries_below n f) (last ∷ []) d b front in rw (first, second) (entries-rise n f a b d h front))
    (λ (end : length (entries_below n f) ≤ b). let second = get_or_push (entries_below n f) last d b (omega arith) in rw (first, second) ((entry-at n f a d (omega arith)).inside))
    (cases_lt b (length (entries_below n f)))) inside

-- no share that isn't 0 is missing
pub entry-there : (n : ℕ) (f : ℕ → ℕ) (j : ℕ) → j < n → 0 < f j → (k : ℕ) × (k < length (entries_below n f)) × ((d : Entry) → (get_or (entries_below n f) k d).patch ≡ j)
entry-there zero f j h some = absurd (omega arith)
entry-there (suc n) f j h some = with_one_more n f (λ es. (k : ℕ) × (k < length es) × ((d : Entry) → (get_or es k d).patch ≡ j))
    (λ e. entry-there n f j (dite (ℕ_discrete j n) (λ same. let is : f j ≡ f n = ap f same in absurd (omega arith)) (λ other. omega arith)) some)
    (λ more.
    let last : Entry = record { patch = n; share = f n } in
    let long = length_push (entries_below n f) last in
    dite (ℕ_discrete j n)
    (λ same. (length (entries_below n f), omega arith, λ d. ap (λ (e : Entry). e.patch) (get_or_push (entries_below n f) last d _ refl) ∙ sym same))
    (λ other.
    let there = entry-there n f j (omega arith) some in
    let inside = there.1 in
    (there.0, omega arith, λ d. ap (λ (e : Entry). e.patch) (get_or_append_left (entries_below n f) (last ∷ []) d there.0 inside) ∙ there.2 d)))
