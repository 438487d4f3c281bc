-- A search of the table for the first degree that a direction doesn't reach finds the greatest that it reaches.
use Rattle.std.proofs.Common.{◌≡◌, ℕ, ◌+◌, ◌-◌, ◌*◌, ◌<◌, ◌≤◌, suc, zero, nat_le, Bool, true, false, List, take, drop, get_or, length, refl, ap, sym, ◌∙◌, arith}
use Rattle.std.proofs.lemmas.Bool.Decides.{nat_tests}
use Rattle.std.proofs.lemmas.List.FromFn.{get_or-map-range_with_len}
use Rattle.std.specs.List.Sorted.{IsPartitionPoint, IsPartitionedBy}
use Rattle.direction_table.specs.Directions.{sine, direction_at, is_past, whole_degrees}
use Rattle.direction_table.specs.declared.degrees.TheConstants.{DEGREES}
use Rattle.direction_table.proofs.Table.{entry_at, table_is, past_before}
use Rattle.laws.proofs.Greatest.{greatest-is}

-- (x, y) lies at or past the degree of an entry, as the code tests it
abbrev pub reaches : ℕ → ℕ → ℕ × ℕ → Bool
reaches x y entry = nat_le (x * entry.0) (y * entry.1)

-- the entries of the degrees from 1 to 89
abbrev pub inner_entries : List (ℕ × ℕ)
inner_entries = take 89 (drop 1 DEGREES)

inner_entry : (place degrees : ℕ) (other : ℕ × ℕ) → place < 89 → 1 + place ≡ degrees → get_or inner_entries place other ≡ entry_at degrees
inner_entry place degrees other h e =
    ap (λ table. get_or (take 89 (drop 1 table)) place other) table_is ∙ get_or-map-range_with_len entry_at 1 89 place degrees other h e

length-inner_entries : length inner_entries ≡ 89
length-inner_entries = refl

pub inner_entries-partitioned : (x y : ℕ) → IsPartitionedBy (reaches x y) inner_entries
inner_entries-partitioned x y low high other h within past =
    let below : high < 89 = omega (arith, length-inner_entries) in
    let high_is = inner_entry high (1 + high) other below refl in
    let low_is = inner_entry low (1 + low) other (omega arith) refl in
    let high_past : is_past x y (1 + high) ≡ true = sym (ap (reaches x y) high_is) ∙ past in
    ap (reaches x y) low_is ∙ past_before x y (1 + low) (1 + high) (omega arith) (omega arith) high_past

pub past_zero : (x y : ℕ) → is_past x y 0 ≡ true
unfolding sine direction_at
past_zero x y = grind (arith, nat_tests)

pub searched : (x y found : ℕ) (other : ℕ × ℕ) → found ≤ 89 → IsPartitionPoint (λ entry. reaches x y entry ≡ true) (λ entry. reaches x y entry ≡ false) inner_entries found → found ≡ whole_degrees x y
unfolding whole_degrees
searched x y found other within (reached, missed) =
    let passes : (degrees : ℕ) → degrees ≡ found → is_past x y degrees ≡ true = λ degrees e.
    elim degrees as (λ k. k ≡ found → is_past x y k ≡ true) [
      | zero ↦ λ _. past_zero x y
      | suc place ↦ λ e. sym (ap (reaches x y) (inner_entry place (suc place) other (omega arith) (omega arith))) ∙ reached place other (omega arith) (omega arith)
    ] e in
    let fails : (degrees : ℕ) → found < degrees → degrees ≤ 89 → is_past x y degrees ≡ false = λ degrees h most.
    sym (ap (reaches x y) (inner_entry (degrees - 1) degrees other (omega arith) (omega arith)))
    ∙ missed (degrees - 1) other (omega arith) (omega (arith, length-inner_entries)) in
    sym (greatest-is 89 (is_past x y) found within (passes found refl) fails)
