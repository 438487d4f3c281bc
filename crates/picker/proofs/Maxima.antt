-- The greatest of some values, and where it stands first.
use Rattle.std.proofs.Common.{◌≡◌, ℕ, ◌-◌, ◌<◌, ◌≤◌, max, List, [], ◌∷◌, Bool, true, eqb, ltb, Option, Some, zero, suc, length, get_or, sym, ap, ◌∙◌, arith}
use Rattle.std.specs.List.{fold, position, position_or_len}
use Rattle.std.specs.Prelude.{unwrap_or}
use Rattle.std.proofs.lemmas.Bool.{eq-eqb, ne_eqb, lt-ltb, cond-true}
use Rattle.std.proofs.lemmas.List.Sums.{position_or_len_is}
use Rattle.picker.specs.Greatest.{greatest_value, greatest_place}

start_below : (xs : List ℕ) (a : ℕ) → a ≤ fold max a xs
start_below [] a = omega arith
start_below (x ∷ xs) a = let h = start_below xs (max a x) in omega arith

each_below : (xs : List ℕ) (a k : ℕ) → k < length xs → get_or xs k 0 ≤ fold max a xs
each_below [] a k h = absurd (omega arith)
each_below (x ∷ xs) a zero h = let le = start_below xs (max a x) in omega arith
each_below (x ∷ xs) a (suc k) h = each_below xs (max a x) k (omega arith)

all_below : (xs : List ℕ) (a m : ℕ) → a ≤ m → ((k : ℕ) → k < length xs → get_or xs k 0 ≤ m) → fold max a xs ≤ m
all_below [] a m h each = h
all_below (x ∷ xs) a m h each = let first = each 0 (omega arith) in all_below xs (max a x) m (omega arith) (λ k l. each (suc k) (omega arith))

-- the value that no other exceeds
pub greatest_value-is : (xs : List ℕ) (b : ℕ) → b < length xs → ((k : ℕ) → k < length xs → get_or xs k 0 ≤ get_or xs b 0) → get_or xs b 0 ≡ greatest_value xs
greatest_value-is xs b inside most =
    let up = each_below xs 0 b inside in
    let down = all_below xs 0 (get_or xs b 0) (omega arith) most in
    omega arith

-- the least number that no value exceeds
pub greatest_value-least : (xs : List ℕ) (most : ℕ) → ((k : ℕ) → k < length xs → get_or xs k 0 ≤ most) → ((m : ℕ) → ((k : ℕ) → k < length xs → get_or xs k 0 ≤ m) → most ≤ m) → most ≡ greatest_value xs
greatest_value-least xs most bound least =
    let up = least (greatest_value xs) (λ k h. each_below xs 0 k h) in
    let down = all_below xs 0 most (omega arith) bound in
    omega arith

pub value_below : (xs : List ℕ) (k : ℕ) → k < length xs → get_or xs k 0 ≤ greatest_value xs
value_below xs k h = each_below xs 0 k h

-- some value is the greatest one
pub is_reached : (xs : List ℕ) → 0 < length xs → ((k : ℕ) → k < length xs → get_or xs k 0 < greatest_value xs) → ⊥
is_reached xs some short =
    let one = short 0 some in
    let less = all_below xs 0 (greatest_value xs - 1) (omega arith) (λ k h. let below = short k h in omega arith) in
    omega arith

-- the place whose value no other exceeds, and all before are below
pub greatest_place-is : (xs : List ℕ) (b : ℕ) → b < length xs → ((k : ℕ) → k < length xs → get_or xs k 0 ≤ get_or xs b 0) → ((k : ℕ) → k < b → get_or xs k 0 < get_or xs b 0) → b ≡ greatest_place xs
greatest_place-is xs b inside most first =
    let is = greatest_value-is xs b inside most in
    let test : ℕ → Bool = λ v. eqb v (greatest_value xs) in
    let place : position_or_len test xs ≡ b =
    position_or_len_is test xs b 0 (omega arith) (λ k l. let lt = first k l in ne_eqb _ _ (λ e. omega arith)) (λ _. eq-eqb _ _ is) in
    let found : ltb (position_or_len test xs) (length xs) ≡ true = lt-ltb _ _ (omega arith) in
    let at : position test xs ≡ Some (position_or_len test xs) = cond-true _ _ _ found in
    sym (ap (λ (o : Option ℕ). unwrap_or o 0) at ∙ place)
