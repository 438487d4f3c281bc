-- The luminaires of a layout: how many there are, that each can be placed in the room, and that each has web 0.
use Rattle.std.proofs.Common.{◌≡◌, ℕ, zero, suc, ◌+◌, ◌*◌, ◌/◌, ◌<◌, ◌≤◌, ◌==◌, List, true, None, length, get_or, map, refl, ◌∙◌, arith, length-append}
use Rattle.std.specs.Prelude.{All}
use Rattle.std.specs.List.{range_with_len, flat_map, list_any}
use Rattle.std.proofs.lemmas.Nat.{mul-le, div_below}
use Rattle.std.proofs.lemmas.Bool.{le-leb, lt-ltb}
use Rattle.std.proofs.lemmas.Option.{slice_get-get_or}
use Rattle.std.proofs.lemmas.List.Elements.{All-nil, All-cons, All-append, All-get_or}
use Rattle.std.proofs.lemmas.List.Folds.{list_any_at}
use Rattle.std.proofs.lemmas.List.FromFn.{length-map-range_with_len}
use Rattle.duties.specs.Duties.{Duty, first, each}
use Rattle.duties.proofs.Orders.{this_met, none_left, unless_holds, each_none, each_more}
use Rattle.room_patches.specs.declared.spec.RoomSpec.{RoomSpec}
use Rattle.fixtures.specs.declared.spec.FixtureSpec.{FixtureSpec}
use Rattle.fixtures.specs.Placing.{fixture_duties, fixture_duty, placing_duty}
use Rattle.fixtures.proofs.Tests.{Passes, duty-at}
use Rattle.workload.specs.declared.layouts.Layout.{Layout}
use Rattle.workload.specs.Generator.{luminaire_at, luminaire_row, luminaires}

module _ {X : Type 0} (P : X → Type 0) where
  -- what holds of the values and of the lists of the numbers below a count holds of all that they list
  all_values : (f : ℕ → X) (a n m : ℕ) → a + n ≡ m → ((k : ℕ) → k < m → P (f k)) → All P (map f (range_with_len a n))
  all_values f a zero m e each = All-nil P
  all_values f a (suc n) m e each = All-cons P (f a) (map f (range_with_len (a + 1) n)) (each a (omega arith)) (all_values f (a + 1) n m (omega arith) each)

  all_lists : (f : ℕ → List X) (a n m : ℕ) → a + n ≡ m → ((k : ℕ) → k < m → All P (f k)) → All P (flat_map f (range_with_len a n))
  all_lists f a zero m e each = All-nil P
  all_lists f a (suc n) m e each = All-append P (f a) (flat_map f (range_with_len (a + 1) n)) (each a (omega arith)) (all_lists f (a + 1) n m (omega arith) each)

-- rows of one length
length-rows : {X : Type 0} (f : ℕ → List X) (w a n : ℕ) → ((row : ℕ) → length (f row) ≡ w) → length (flat_map f (range_with_len a n)) ≡ n * w
length-rows f w a zero each = omega arith
length-rows f w a (suc n) each = omega (arith, length-append (f a) (flat_map f (range_with_len (a + 1) n)), each a, length-rows f w (a + 1) n each)

pub length-luminaires : (layout : Layout) → length (luminaires layout) ≡ layout.rows * layout.columns
unfolding luminaires luminaire_row
length-luminaires layout =
    length-rows (luminaire_row layout) layout.columns 0 layout.rows
    (λ row. length-map-range_with_len (λ column. luminaire_at layout column row) 0 layout.columns)

-- a luminaire that can be placed in a room, with web 0
pub record IsHung (room : RoomSpec) (asked : FixtureSpec) : Type 0 where
  pub web : asked.web ≡ 0
  pub passes : Passes room asked

share-le : (k n whole : ℕ) → k ≤ n → 0 < n → k * whole / n ≤ whole
share-le k n whole h some =
    let most = mul-le k whole n whole h (omega arith) in
    let below = div_below (k * whole) n (whole + 1) some (omega arith) in
    omega arith

luminaire-hung : (layout : Layout) (column row : ℕ) → column < layout.columns → row < layout.rows → IsHung layout.room (luminaire_at layout column row)
unfolding luminaire_at
luminaire-hung layout column row in_row in_layout = record {
  web = refl;
  passes = record {
    x = share-le (2 * column + 1) (2 * layout.columns) layout.room.width (omega arith) (omega arith);
    y = share-le (2 * row + 1) (2 * layout.rows) layout.room.depth (omega arith) (omega arith);
    z = omega arith;
    rotation = omega arith;
    level = omega arith;
  };
}

pub luminaires_hung : (layout : Layout) → All (IsHung layout.room) (luminaires layout)
unfolding luminaires luminaire_row
luminaires_hung layout =
    all_lists (IsHung layout.room) (luminaire_row layout) 0 layout.rows layout.rows (omega arith)
    (λ row in_layout. all_values (IsHung layout.room) (λ column. luminaire_at layout column row) 0 layout.columns layout.columns (omega arith)
    (λ column in_row. luminaire-hung layout column row in_row in_layout))

-- what stands past the end of a list
blank : FixtureSpec
blank = record { web = 0; x = 0; y = 0; z = 0; rotation = 0; level = 0 }

met_where_passes : (room : RoomSpec) (at : ℕ) (asked : FixtureSpec) → Passes room asked → first (fixture_duties room at asked) ≡ None
unfolding fixture_duties
met_where_passes room at asked passes =
    this_met _ _ (unless_holds _ _ (grind (arith, le-leb)))
    ∙ (this_met _ _ (unless_holds _ _ (lt-ltb _ _ passes.rotation)) ∙ (this_met _ _ (unless_holds _ _ (le-leb _ _ passes.level)) ∙ none_left))

each_of_met : {F : Type 0} (duty : ℕ → Duty F) (n : ℕ) → ((k : ℕ) → k < n → duty k ≡ None) → each n duty ≡ None
each_of_met duty zero met = each_none duty
each_of_met duty (suc n) met = let e : suc n ≡ n + 1 = omega arith in rw e (each_more duty n (each_of_met duty n (λ k h. met k (omega arith))) ∙ met n (omega arith))

-- luminaires that can be placed one by one can be placed together
pub placing_met : (room : RoomSpec) (specs : List FixtureSpec) → All (IsHung room) specs → placing_duty room specs ≡ None
unfolding placing_duty blank
placing_met room specs hung =
    each_of_met (fixture_duty room specs) (length specs)
    (λ k inside.
    duty-at room specs k (get_or specs k blank) (slice_get-get_or specs k blank inside)
    ∙ met_where_passes room k (get_or specs k blank) (All-get_or (IsHung room) specs k blank inside hung).passes)

-- the only web is used
pub web_used : (room : RoomSpec) (specs : List FixtureSpec) → All (IsHung room) specs → 1 ≤ length specs → (j : ℕ) → j < 1 → list_any (λ f. f.web == j) specs ≡ true
unfolding blank
web_used room specs hung some j h =
    let first_is = (All-get_or (IsHung room) specs 0 blank some hung).web in
    let same : j ≡ 0 = omega arith in
    list_any_at (λ f. f.web == j) specs 0 blank some (rw (first_is, same) refl)
