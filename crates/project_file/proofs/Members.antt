-- Members of which one has another value, and members without an unknown key.
use Rattle.std.proofs.Common.{◌≡◌, ℕ, Bool, true, false, true≢false, List, [], ◌∷◌, filter, Option, Some, None, option_map, Ordering, Less, Equal, Greater, nat_cmp, is_eq, if◌then◌else◌, refl, ap, ◌∙◌, sym, inl, inr}
use Rattle.std.specs.Ordering.{match_ordering}
use Rattle.std.specs.Cmp.Lexicographic.{slice_cmp}
use Rattle.std.specs.Str.{bytes_eq}
use Rattle.std.proofs.lemmas.Bool.{cases_Bool}
use Rattle.std.proofs.lemmas.Map.Text.{is_eq-slice_cmp}
use Rattle.std.proofs.lemmas.Slice.Eq.{bytes_eq-Decides}
use Rattle.toml.specs.Data.{Data, Members, no_members, member, get_member}
use Rattle.project_file.specs.FieldDuties.{member_keys, first_key}
use Rattle.project_file.specs.Migration.{with_value}

-- keys that stand equal in order are the same
same_in_order : (k l : List ℕ) → is_eq (slice_cmp nat_cmp k l) ≡ true → k ≡ l
same_in_order k l e = (bytes_eq-Decides k l).0 (sym (is_eq-slice_cmp k l) ∙ e)

module _ (key : List ℕ) (change : Data → Data) where
  here : (o : Ordering) (same : Bool) (value : Data) (later before : Option Data) → is_eq o ≡ same → later ≡ option_map change before
      → match_ordering o later (Some (if same then change value else value)) later ≡ option_map change (match_ordering o before (Some value) before)
  here Less same value later before e h = h
  here Equal same value later before e h = rw (← e) refl
  here Greater same value later before e h = h

  elsewhere : (o : Ordering) (same : Bool) (value : Data) (later before : Option Data) → (is_eq o ≡ true → same ≡ false) → later ≡ before
      → match_ordering o later (Some (if same then change value else value)) later ≡ match_ordering o before (Some value) before
  elsewhere Less same value later before e h = h
  elsewhere Equal same value later before e h = rw (e refl) refl
  elsewhere Greater same value later before e h = h

  -- the key has the changed value
  pub changed : (t : Members) → get_member key (with_value key change t) ≡ option_map change (get_member key t)
  changed no_members = refl
  changed (member other value members) = here (slice_cmp nat_cmp key other) (bytes_eq key other) value _ _ (is_eq-slice_cmp key other) (changed members)

  -- another key has its value
  pub kept : (k : List ℕ) → bytes_eq key k ≡ false → (t : Members) → get_member k (with_value key change t) ≡ get_member k t
  kept k apart no_members = refl
  kept k apart (member other value members) =
      elsewhere (slice_cmp nat_cmp k other) (bytes_eq key other) value _ _ (λ e. let is : k ≡ other = same_in_order k other e in rw is at apart) (kept k apart members)

  -- the keys stay
  pub keys_kept : (t : Members) → member_keys (with_value key change t) ≡ member_keys t
  keys_kept no_members = refl
  keys_kept (member other value members) = ap (λ (keys : List (List ℕ)). other ∷ keys) (keys_kept members)

-- where no key passes a test, none passes one that fewer pass
pub none_of_fewer : (p q : List ℕ → Bool) → ((key : List ℕ) → p key ≡ false → q key ≡ false) → (keys : List (List ℕ)) → first_key (filter p keys) ≡ None → first_key (filter q keys) ≡ None
none_of_fewer p q fewer [] h = refl
none_of_fewer p q fewer (key ∷ keys) h =
    elim (cases_Bool (p key)) [
      | inl e ↦ let some = rw e at h in cc
      | inr e ↦ rw (fewer key e) (none_of_fewer p q fewer keys (rw e at h))
    ]

absent_here : (o : Ordering) (value : Data) (later : Option Data) → (is_eq o ≡ true → ⊥) → later ≡ None → match_ordering o later (Some value) later ≡ None
absent_here Less value later e h = h
absent_here Equal value later e h = absurd (e refl)
absent_here Greater value later e h = h

-- where no key passes a test, one that would pass it is absent
pub absent : (p : List ℕ → Bool) (key : List ℕ) → p key ≡ true → (t : Members) → first_key (filter p (member_keys t)) ≡ None → get_member key t ≡ None
absent p key passes no_members h = refl
absent p key passes (member other value members) h =
    elim (cases_Bool (p other)) [
      | inl e ↦ let some = rw e at h in cc
      | inr e ↦ absent_here (slice_cmp nat_cmp key other) value _ (λ same. let is : key ≡ other = same_in_order key other same in true≢false (sym (rw is at passes) ∙ e)) (absent p key passes members (rw e at h))
    ]
