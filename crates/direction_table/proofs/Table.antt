-- The code's table is the recurrence, and from degree to degree its sines rise and its cosines fall.
use Rattle.std.proofs.Common.{◌≡◌, ℕ, ◌+◌, ◌-◌, ◌*◌, ◌<◌, ◌≤◌, suc, zero, nat_le, Bool, true, ◌&&◌, map, get_or, refl, ap, sym, ◌∙◌, arith}
use Rattle.std.proofs.Math.Nat.{mul-le-mul_left}
use Rattle.std.proofs.lemmas.Bool.Decides.{nat_tests}
use Rattle.std.proofs.lemmas.List.FromFn.{get_or-map-range_with_len}
use Rattle.std.specs.List.{range_with_len}
use Rattle.direction_table.specs.Directions.{sine, cosine, direction_at, is_past}
use Rattle.direction_table.specs.declared.degrees.TheConstants.{DEGREES}

-- what the table has at a whole number of degrees
abbrev pub entry_at : ℕ → ℕ × ℕ
entry_at degrees = (sine degrees, cosine degrees)

pub table_is : DEGREES ≡ map entry_at (range_with_len 0 91)
unfolding sine cosine direction_at
table_is = refl

pub get_or-DEGREES : (degrees : ℕ) (other : ℕ × ℕ) → degrees ≤ 90 → get_or DEGREES degrees other ≡ entry_at degrees
get_or-DEGREES degrees other h = ap (λ table. get_or table degrees other) table_is ∙ get_or-map-range_with_len entry_at 0 91 degrees degrees other (omega arith) (omega arith)

-- the sine is no less at the next whole degree, and the cosine no more
abbrev is_turning : ℕ → Bool
is_turning degrees = nat_le (sine degrees) (sine (degrees + 1)) && nat_le (cosine (degrees + 1)) (cosine degrees)

all_turn : map is_turning (range_with_len 0 90) ≡ map (λ _. true) (range_with_len 0 90)
unfolding sine cosine direction_at
all_turn = refl

turns : (degrees : ℕ) → degrees < 90 → (sine degrees ≤ sine (degrees + 1)) × (cosine (degrees + 1) ≤ cosine degrees)
turns degrees h =
    let test : is_turning degrees ≡ true =
    sym (get_or-map-range_with_len is_turning 0 90 degrees degrees true h (omega arith))
    ∙ ap (λ tests. get_or tests degrees true) all_turn
    ∙ get_or-map-range_with_len (λ _. true) 0 90 degrees degrees true h (omega arith) in
    grind (arith, nat_tests)

turns_far : (degrees more : ℕ) → degrees + more ≤ 90 → (sine degrees ≤ sine (degrees + more)) × (cosine (degrees + more) ≤ cosine degrees)
turns_far degrees zero h = grind arith
turns_far degrees (suc more) h = grind (arith, turns_far degrees more, turns (degrees + more))

-- what lies past a degree lies past each degree before it
pub past_before : (x y low high : ℕ) → low ≤ high → high ≤ 90 → is_past x y high ≡ true → is_past x y low ≡ true
past_before x y low high h within past =
    let e : low + (high - low) ≡ high = omega arith in
    let far = turns_far low (high - low) (omega arith) in
    let sines : sine low ≤ sine high = grind arith in
    let cosines : cosine high ≤ cosine low = grind arith in
    let across : x * sine low ≤ x * sine high = mul-le-mul_left x sines in
    let along : y * cosine high ≤ y * cosine low = mul-le-mul_left y cosines in
    grind (arith, nat_tests)
