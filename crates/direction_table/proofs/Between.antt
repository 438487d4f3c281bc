-- Where a direction lies between its whole degree and the next.
use Rattle.std.proofs.Common.{◌≡◌, ℕ, ◌+◌, ◌*◌, ◌<◌, ◌≤◌, suc, zero, refl, ap, sym, ◌∙◌, lit<, arith}
use Rattle.std.proofs.Math.Nat.{mul-le-mul}
use Rattle.std.proofs.lemmas.Bool.Decides.{nat_tests}
use Rattle.std.proofs.lemmas.Nat.{div_below}
use Rattle.direction_table.specs.Directions.{sine, cosine, direction_at, is_past, whole_degrees, distance_past, distance_short, thousandths}
use Rattle.laws.proofs.Greatest.{greatest-within, greatest-passes, greatest-is, past_greatest}
use Rattle.direction_table.proofs.Searched.{past_zero}

-- it lies at or past the whole degree
pub reached : (x y : ℕ) → x * sine (whole_degrees x y) ≤ y * cosine (whole_degrees x y)
unfolding whole_degrees
reached x y = grind (arith, nat_tests, greatest-passes 89 (is_past x y) (past_zero x y))

last_sine : sine 90 ≡ 1000000000000000000
unfolding sine
last_sine = refl

last_cosine : cosine 90 ≡ 0
unfolding cosine
last_cosine = refl

-- off the y axis it lies short of the next degree
missed_at : (x y next : ℕ) → 0 < x → whole_degrees x y + 1 ≡ next → y * cosine next < x * sine next
unfolding whole_degrees
missed_at x y next h e =
    let within = greatest-within 89 (is_past x y) in
    let inner : next ≤ 89 → y * cosine next < x * sine next = λ below.
    let past = past_greatest 89 (is_past x y) next (omega arith) below in grind (arith, nat_tests) in
    let last : next ≡ 90 → y * cosine next < x * sine next = λ is.
    let sines : x * sine next ≡ x * 1000000000000000000 = ap (λ degrees. x * sine degrees) is ∙ ap (λ n. x * n) last_sine in
    let cosines : y * cosine next ≡ y * 0 = ap (λ degrees. y * cosine degrees) is ∙ ap (λ n. y * n) last_cosine in
    omega arith in
    grind (arith, inner, last)

pub missed : (x y : ℕ) → 0 < x → y * cosine (whole_degrees x y + 1) < x * sine (whole_degrees x y + 1)
missed x y h = missed_at x y _ h refl

-- on the y axis it lies at 89 degrees, past which it lies by the whole cosine
upright : (y : ℕ) → whole_degrees 0 y ≡ 89
unfolding whole_degrees
upright y = grind (arith, nat_tests, greatest-is 89 (is_past 0 y) 89)

-- it never lies past the next degree
not_past_at : (x y next : ℕ) → whole_degrees x y + 1 ≡ next → y * cosine next ≤ x * sine next
not_past_at zero y next e =
    let is : next ≡ 90 = omega (arith, upright y) in
    let cosines : y * cosine next ≡ y * 0 = ap (λ degrees. y * cosine degrees) is ∙ ap (λ n. y * n) last_cosine in
    omega arith
not_past_at (suc x) y next e = let short = missed_at (suc x) y next (omega arith) e in omega arith

pub not_past_next : (x y : ℕ) → y * cosine (whole_degrees x y + 1) ≤ x * sine (whole_degrees x y + 1)
not_past_next x y = not_past_at x y _ refl

last_room : 0 < cosine 89
unfolding cosine direction_at
last_room = lit< tt

-- off the origin the two distances don't both vanish
apart_at : (x y degrees next : ℕ) → 0 < x + y → whole_degrees x y ≡ degrees → degrees + 1 ≡ next → 0 < distance_past x y degrees + distance_short x y next
apart_at zero y degrees next h e f =
    let is : degrees ≡ 89 = sym e ∙ upright y in
    let along : y * cosine degrees ≡ y * cosine 89 = ap (λ k. y * cosine k) is in
    let upward : 1 ≤ y = omega arith in
    let some : 1 * 1 ≤ y * cosine 89 = mul-le-mul upward last_room in
    omega arith
apart_at (suc x) y degrees next h e f =
    let short = missed_at (suc x) y next (omega arith) (omega arith) in
    omega arith

pub apart : (x y : ℕ) → 0 < x + y → 0 < distance_past x y (whole_degrees x y) + distance_short x y (whole_degrees x y + 1)
apart x y h = apart_at x y _ _ h refl refl

-- off the y axis the place is below a whole degree
pub thousandths-below : (x y : ℕ) → 0 < x → thousandths x y (whole_degrees x y) < 1000
thousandths-below x y h =
    let short = missed x y h in
    let some : 0 < distance_short x y (whole_degrees x y + 1) = omega arith in
    div_below _ _ 1000 (omega arith) (omega arith)

-- what the code's differences and its quotient need
pub ruleset places = (reached, not_past_next, apart)
