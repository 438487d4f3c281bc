-- Whether some value of many lists passes a test.
use Rattle.std.proofs.Common.{◌≡◌, Bool, ◌||◌, List, [], ◌∷◌, refl, ap, ◌∙◌}
use Rattle.std.specs.List.{list_any, flat_map}
use Rattle.std.proofs.lemmas.List.Folds.{list_any-append}

pub list_any_of_flat_map : {X Y : Type 0} (test : Y → Bool) (lists : X → List Y) (xs : List X)
    → list_any test (flat_map lists xs) ≡ list_any (λ x. list_any test (lists x)) xs
list_any_of_flat_map test lists [] = refl
list_any_of_flat_map test lists (x ∷ xs) =
    list_any-append test (lists x) (flat_map lists xs) ∙ ap (λ (b : Bool). list_any test (lists x) || b) (list_any_of_flat_map test lists xs)
