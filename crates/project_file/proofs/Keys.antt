-- The first of some keys that stand in the order of their bytes.
use Rattle.std.proofs.Common.{◌≡◌, ℕ, Bool, false, List, [], ◌∷◌, map, filter, Some, String, Global, Less, Greater, string_bytes, nat_cmp, refl, ap, ◌∙◌, inl, inr}
use Rattle.std.specs.Prelude.{option_map}
use Rattle.std.specs.List.{find, AllByRecursion}
use Rattle.std.specs.List.Sorted.{IsStrictlySortedBy}
use Rattle.std.specs.Map.{keys_of}
use Rattle.std.specs.BTreeMap.{BTreeMap, IsOrdered}
use Rattle.std.specs.BTreeMap as tree
use Rattle.std.specs.String.{string_cmp}
use Rattle.std.specs.Ordering.{is_lt, ordering_reverse}
use Rattle.std.specs.Cmp.Lexicographic.{slice_cmp}
use Rattle.std.proofs.lemmas.Bool.{cases_Bool}
use Rattle.std.proofs.lemmas.Cmp.{nat_list_cmp_total}
use Rattle.toml.specs.View.{table_view, members_view}
use Rattle.toml.specs.declared.value.Value.{Value}
use Rattle.project_file.specs.FieldDuties.{member_keys, earlier_key, first_key}

-- a key is below each of some others
abbrev IsBelow : List ℕ → List (List ℕ) → Type 0
IsBelow key [] = Unit {0}
IsBelow key (other ∷ others) = (slice_cmp nat_cmp key other ≡ Less) × IsBelow key others

-- the keys rise
abbrev Rise : List (List ℕ) → Type 0
Rise [] = Unit {0}
Rise (key ∷ others) = IsBelow key others × Rise others

above : (a b : List ℕ) → slice_cmp nat_cmp a b ≡ Less → is_lt (slice_cmp nat_cmp b a) ≡ false
above a b h = let back : slice_cmp nat_cmp b a ≡ Greater = nat_list_cmp_total.antisymm b a ∙ ap ordering_reverse h in rw back

-- the front of a filtered list, by its test
filter_front : (P : List (List ℕ) → Type 0) (test : List ℕ → Bool) (key : List ℕ) (others : List (List ℕ)) → P (key ∷ filter test others) → P (filter test others) → P (filter test (key ∷ others))
filter_front P test key others first later =
    elim (cases_Bool (test key)) [
      | inl e ↦ rw e first
      | inr e ↦ rw e later
    ]

below_filter : (test : List ℕ → Bool) (key : List ℕ) (others : List (List ℕ)) → IsBelow key others → IsBelow key (filter test others)
below_filter test key [] h = tt
below_filter test key (other ∷ others) h =
    let rest = below_filter test key others h.1 in
    filter_front (IsBelow key) test other others (h.0, rest) rest

rise_filter : (test : List ℕ → Bool) (ks : List (List ℕ)) → Rise ks → Rise (filter test ks)
rise_filter test [] h = tt
rise_filter test (key ∷ ks) h =
    let rest = rise_filter test ks h.1 in
    filter_front Rise test key ks (below_filter test key ks h.0, rest) rest

-- the first of rising keys is the first in the order of bytes
first_rising : (key : List ℕ) (others : List (List ℕ)) → Rise (key ∷ others) → earlier_key key (first_key others) ≡ key
first_rising key [] h = refl
first_rising key (other ∷ others) h =
    let next = first_rising other others h.1 in
    let later = above key other h.0.0 in
    rw next (rw later)

first_key_is : (test : List ℕ → Bool) (ks : List (String Global)) → Rise (map string_bytes ks) → first_key (filter test (map string_bytes ks)) ≡ option_map string_bytes (find (λ key. test (string_bytes key)) ks)
first_key_is test [] h = refl
first_key_is test (k ∷ ks) h =
    let rest = first_key_is test ks h.1 in
    elim (cases_Bool (test (string_bytes k))) [
      | inl e ↦ rw e (ap Some (first_rising (string_bytes k) (filter test (map string_bytes ks)) (below_filter test (string_bytes k) (map string_bytes ks) h.0, rise_filter test (map string_bytes ks) h.1)))
      | inr e ↦ rw e rest
    ]

keys_view : (es : List (String Global × Value)) → member_keys (members_view es) ≡ map string_bytes (keys_of es)
keys_view [] = refl
keys_view (e ∷ es) = ap (λ (ks : List (List ℕ)). string_bytes e.0 ∷ ks) (keys_view es)

below : (k : String Global) (ks : List (String Global)) → AllByRecursion (λ y. string_cmp k y ≡ Less) ks → IsBelow (string_bytes k) (map string_bytes ks)
below k [] h = tt
below k (x ∷ ks) h = (h.0, below k ks h.1)

rise : (ks : List (String Global)) → IsStrictlySortedBy string_cmp ks → Rise (map string_bytes ks)
unfolding IsStrictlySortedBy
rise [] h = tt
rise (k ∷ ks) h = (below k ks h.0, rise ks h.1)

-- the first key in the order of bytes that passes a test is the first that a table's map finds
pub first_of_keys : (test : List ℕ → Bool) (m : BTreeMap (String Global) Value) → IsOrdered string_cmp m → first_key (filter test (member_keys (table_view m))) ≡ option_map string_bytes (find (λ key. test (string_bytes key)) (tree.keys m))
first_of_keys test m h = rw keys_view (first_key_is test (keys_of m.entries) (rise (keys_of m.entries) h))
