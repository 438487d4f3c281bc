-- The items of an array as a list.
use Rattle.std.proofs.Common.{◌≡◌, ℕ, Bool, ◌&&◌, List, [], ◌∷◌, length, map, zero, suc, true, ◌<◌, get_or, Some, refl, ap, arith}
use Rattle.std.specs.Prelude.{slice_get}
use Rattle.std.proofs.lemmas.Bool.{and_parts}
use Rattle.std.specs.List.{list_all}
use Rattle.toml.specs.Data.{Data}
use Rattle.toml.specs.View.{view, items_view}
use Rattle.toml.specs.declared.value.Value.{Value}
use Rattle.project_file.specs.Fields.{toml_items}

-- the items of the values of a list are the data of the values
pub listed_view : (values : List Value) → toml_items (items_view values) ≡ map view values
listed_view [] = refl
listed_view (v ∷ values) = ap (λ (ds : List Data). view v ∷ ds) (listed_view values)

pub all_listed : (test : Data → Bool) (values : List Value) → list_all test (toml_items (items_view values)) ≡ list_all (λ v. test (view v)) values
all_listed test [] = refl
all_listed test (v ∷ values) = ap (λ (b : Bool). test (view v) && b) (all_listed test values)

pub length_listed : (values : List Value) → length (toml_items (items_view values)) ≡ length values
length_listed [] = refl
length_listed (v ∷ values) = ap suc (length_listed values)

-- the item at a place, and its test
pub listed_at : (values : List Value) (i : ℕ) (d : Value) → i < length values → slice_get (toml_items (items_view values)) i ≡ Some (view (get_or values i d))
listed_at [] i d inside = absurd (omega arith)
listed_at (v ∷ values) zero d inside = refl
listed_at (v ∷ values) (suc i) d inside = listed_at values i d (omega arith)

pub all_at : (test : Data → Bool) (values : List Value) (i : ℕ) (d : Value) → list_all test (toml_items (items_view values)) ≡ true → i < length values → test (view (get_or values i d)) ≡ true
all_at test [] i d h inside = absurd (omega arith)
all_at test (v ∷ values) zero d h inside = (and_parts _ _ h).0
all_at test (v ∷ values) (suc i) d h inside = all_at test values i d (and_parts _ _ h).1 (omega arith)

-- what is known of the items of an array
pub ruleset lists = (all_listed, length_listed)
