-- A take fits into a hand.
use Rattle.std.proofs.Common.{◌≡◌, ℕ, ◌+◌, ◌*◌, ◌/◌, ◌<◌, ◌≤◌, Bool, true, false, leb, List, length, get_or, refl, sym, ◌∙◌, arith, ⊎_elim}
use Rattle.std.specs.List.{list_all}
use Rattle.std.proofs.lemmas.Nat.{mul-le}
use Rattle.std.proofs.lemmas.Bool.{true≢false, leb-true, cases_lt}
use Rattle.std.proofs.lemmas.List.{get_or_past}
use Rattle.std.proofs.lemmas.List.Folds.{list_all_at}
use Rattle.flux_system.specs.System.{FluxSystem, scale, patches, coefficient}
use Rattle.flux_system.specs.Validity.{IsSystem}
use Rattle.flux_system.proofs.Keeping.{passed_part-lt}
use Rattle.flux_system.proofs.Sums.{le-sum}
use Rattle.shot_core.specs.Shots.{parts_after, amounts_after}
use Rattle.shot_core.proofs.Lists.{list-at}

-- each number of a list is at most 2^62
abbrev has_room : List ℕ → Bool
has_room xs = list_all (λ (x : ℕ). leb x 4611686018427387904) xs

at_most : (xs : List ℕ) → has_room xs ≡ true → (j : ℕ) → get_or xs j 0 ≤ 4611686018427387904
at_most xs room j =
    ⊎_elim
    (λ (h : j < length xs). leb-true (get_or xs j 0) 4611686018427387904 (is (leb (get_or xs j 0) 4611686018427387904) (list_all_at (λ (x : ℕ). leb x 4611686018427387904) xs j 0 h)))
    (λ (h : length xs ≤ j). let none = get_or_past xs j 0 h in omega arith)
    (cases_lt j (length xs))
  where
    is : (b : Bool) → (b ≡ false → has_room xs ≡ false) → b ≡ true
    is true none = refl
    is false none = absurd (true≢false (sym room ∙ none refl))

-- what is passed on of a take comes to no more than it
whole_le : (e t c : ℕ) → e ≤ 4611686018427387904 → t ≤ 4611686018427387904 → c < scale → (e + t * c) / scale ≤ 4611686018427387904
whole_le e t c small few part = let product = mul-le t c 4611686018427387904 999999999999 few (omega arith) in omega arith

-- a take fits where there is room for as much
pub take_fits : (s : FluxSystem) (i t : ℕ) (amounts fractions : List ℕ) → IsSystem s → i < patches s → t ≤ 4611686018427387904 → has_room amounts ≡ true → has_room fractions ≡ true → (j : ℕ) → j < patches s → get_or (amounts_after s i t amounts fractions) j 0 < 18446744073709551616
take_fits s i t amounts fractions valid inside few of_amounts of_fractions j h =
    let one = le-sum (patches s) (coefficient s i) j h in
    let all = passed_part-lt s valid i inside in
    let at = list-at (λ k. get_or amounts k 0 + parts_after s i t fractions k / scale) (patches s) j h in
    let whole = whole_le (get_or fractions j 0) t (coefficient s i j) (at_most fractions of_fractions j) few (omega arith) in
    let old = at_most amounts of_amounts j in
    omega arith
