-- The greatest rise of a patch, and that the entries of its column alone give it.
use Rattle.std.proofs.Common.{◌≡◌, ℕ, zero, suc, ◌+◌, ◌*◌, ◌<◌, ◌≤◌, List, length, slice_index, slice_index_or, max, sym, ap, subst, ◌∙◌, arith, below_more}
use Rattle.std.specs.Int.{div_ceil}
use mathlib.Core.Logic.{dite}
use native.Mathlib.Decide.{ℕ_discrete}
use Rattle.flux_system.specs.declared.entries.Entry.{Entry}
use Rattle.flux_system.specs.System.{FluxSystem, patches, share, coefficient, keep}
use Rattle.flux_system.specs.Entries.{column_entries}
use Rattle.flux_system.proofs.WithoutZeros.{IsEntryOf, entry-at, entry-there}
use Rattle.enclosure.specs.declared.fraction.Fraction.{Fraction}
use Rattle.enclosure.specs.Interval.{greatest_below, rise_from}
use Rattle.enclosure.specs.Shapes.{part_of, IsGreatest}

pub greatest-le : (n : ℕ) (f : ℕ → ℕ) (m : ℕ) → ((i : ℕ) → i < n → f i ≤ m) → greatest_below n f ≤ m
greatest-le zero f m h = omega arith
greatest-le (suc n) f m h = omega (arith, greatest-le n f m (λ i l. h i (omega arith)), h n (omega arith))

pub le-greatest : (n : ℕ) (f : ℕ → ℕ) (i : ℕ) → i < n → f i ≤ greatest_below n f
le-greatest zero f i h = absurd (omega arith)
le-greatest (suc n) f i h =
    dite (ℕ_discrete i n) (λ e. let same : f i ≡ f n = ap f e in omega arith) (λ ne. let le = le-greatest n f i (omega arith) in omega arith)

-- a patch whose flux doesn't fall on patch j raises it by 0
rise-zero : (s : FluxSystem) (spill j i : ℕ) → share s i j ≡ 0 → rise_from s spill j i ≡ 0
unfolding coefficient
rise-zero s spill j i none =
    let nothing : coefficient s i j * spill ≡ 0 = ap (λ (x : ℕ). slice_index s.reflectance i * x * spill) none ∙ omega arith in
    ap (λ (x : ℕ). div_ceil x (keep s i)) nothing ∙ omega arith

module _ (s : FluxSystem) (j : ℕ) (column : List Entry) where
  -- the fraction is no more than the greatest rise of patch j, and no less than that of each of the first k entries
  pub record IsGreatestSoFar (k : ℕ) (f : Fraction) : Type 0 where
    pub whole : 0 < f.whole
    pub inside : (spill : ℕ) → part_of f spill ≤ greatest_below (patches s) (rise_from s spill j)
    pub reached : (spill m : ℕ) → m < k → rise_from s spill j (slice_index_or column m (record { patch = 0; share = 0 })).patch ≤ part_of f spill

  module _ (is : column ≡ column_entries s j) where
    pub entry_of_column : (k : ℕ) (d : Entry) → k < length column → IsEntryOf (patches s) (λ i. share s i j) (slice_index_or column k d)
    unfolding column_entries
    entry_of_column k d = subst (λ (es : List Entry). k < length es → IsEntryOf (patches s) (λ i. share s i j) (slice_index_or es k d)) (sym is) (entry-at (patches s) (λ i. share s i j) k d)

    -- one more entry
    pub so_far-more : (k r q whole : ℕ) (before after : Fraction) → let e = slice_index_or column k (record { patch = 0; share = 0 }) in
        k < length column → r ≡ slice_index s.reflectance e.patch → q ≡ e.share → whole ≡ keep s e.patch → IsGreatestSoFar k before
        → 0 < after.whole → ((amount : ℕ) → part_of after amount ≡ max (part_of before amount) (div_ceil (r * q * amount) whole)) → IsGreatestSoFar (k + 1) after
    unfolding coefficient
    so_far-more k r q whole before after h r_is q_is whole_is so_far some takes = record {
      whole = some;
      inside = λ spill.
          let old = so_far.inside spill in
          let new = le-greatest (patches s) (rise_from s spill j) _ of.inside in
          let both = takes spill in
          let one = this spill in
          omega arith;
      reached = λ spill m l.
          below_more (λ (m : ℕ). rise_from s spill j (slice_index_or column m (record { patch = 0; share = 0 })).patch ≤ part_of after spill) k
          (λ m l. let old = so_far.reached spill m l in let both = takes spill in omega arith)
          (let both = takes spill in let one = this spill in omega arith) m l;
    }
      where
        of : IsEntryOf (patches s) (λ i. share s i j) (slice_index_or column k (record { patch = 0; share = 0 }))
        of = entry_of_column k _ h

        this : (spill : ℕ) → div_ceil (r * q * spill) whole ≡ rise_from s spill j (slice_index_or column k (record { patch = 0; share = 0 })).patch
        this spill = λ x. div_ceil (r_is x * (q_is ∙ of.is) x * spill) (whole_is x)

    -- a rise of each patch is reached, if each entry is
    each_reached : (f : Fraction) → IsGreatestSoFar (length column) f → (spill i : ℕ) → i < patches s → rise_from s spill j i ≤ part_of f spill
    unfolding column_entries
    each_reached f so_far spill i h = dite (ℕ_discrete (share s i j) 0)
        (λ none. let nothing = rise-zero s spill j i none in omega arith)
        (λ some.
        let there = entry-there (patches s) (λ m. share s m j) i h (omega arith) in
        let long = ap length is in
        let inside = there.1 in
        let patch = ap (λ (es : List Entry). (slice_index_or es there.0 (record { patch = 0; share = 0 })).patch) is ∙ there.2 (record { patch = 0; share = 0 }) in
        subst (λ (m : ℕ). rise_from s spill j m ≤ part_of f spill) patch (so_far.reached spill there.0 (omega arith)))

    -- all entries are enough
    pub so_far-all : (k : ℕ) (f : Fraction) → k ≡ length column → IsGreatestSoFar k f → IsGreatest s j f
    so_far-all k f end so_far = record {
      whole = so_far.whole;
      rises = λ spill.
          let below = so_far.inside spill in
          let above = greatest-le (patches s) (rise_from s spill j) (part_of f spill) (each_reached f (subst (λ (m : ℕ). IsGreatestSoFar m f) end so_far) spill) in
          omega arith;
    }
