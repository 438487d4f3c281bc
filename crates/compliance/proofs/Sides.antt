-- Sums and leasts of the low ends and of the high ends of points, and of values that lie within.
use Rattle.std.proofs.Common.{◌≡◌, ℕ, suc, ◌*◌, ◌/◌, ◌<◌, ◌≤◌, ◌^◌, min, List, [], ◌∷◌, length, sum, fold, All, refl, ap, ⊎_elim, arith}
use Rattle.std.specs.List.{AllZip}
use Rattle.std.proofs.Math.Nat.{div-le_of_le-mul}
use Rattle.std.proofs.lemmas.Nat.{mul-le}
use Rattle.std.proofs.lemmas.Bool.{cases_lt}
use Rattle.std.proofs.lemmas.List.{length-map}
use Rattle.std.proofs.lemmas.List.Elements.{All-head, All-tail}
use Rattle.std.proofs.lemmas.List.Sums.{sum_by-cons, sum_by-le, sum-map}
use Rattle.compliance.specs.Exact.{IsBetween, least}
use Rattle.compliance.specs.Verdict.{AreIntervals, lows, highs}

-- each value over d lies within its point's interval
abbrev pub Within : ℕ → List (ℕ × ℕ) → List ℕ → Type 0
Within d points values = AllZip (λ ends value. IsBetween ends (record { top = value; bottom = d })) points values

pub length-within : (d : ℕ) (points : List (ℕ × ℕ)) (values : List ℕ) → Within d points values → length values ≡ length points
length-within d [] [] within = refl
length-within d [] (v ∷ values) within = elim within [ ]
length-within d (p ∷ points) [] within = elim within [ ]
length-within d (p ∷ points) (v ∷ values) (here, rest) = ap suc (length-within d points values rest)

-- ---- sums
pub sum-lows-le : (points : List (ℕ × ℕ)) → AreIntervals points → sum (lows points) ≤ length points * 10 ^ 30
sum-lows-le points are =
    let each : All (λ (ends : ℕ × ℕ). ends.0 ≤ 10 ^ 30) points = λ k d h. let a = are.ordered k d h in let b = are.bounded k d h in omega arith in
    let whole = sum_by-le (λ (ends : ℕ × ℕ). ends.0) (10 ^ 30) points each in
    let same = sum-map (λ (ends : ℕ × ℕ). ends.0) points in
    omega arith

pub sum-highs-le : (points : List (ℕ × ℕ)) → AreIntervals points → sum (highs points) ≤ length points * 10 ^ 30
sum-highs-le points are =
    let whole = sum_by-le (λ (ends : ℕ × ℕ). ends.1) (10 ^ 30) points are.bounded in
    let same = sum-map (λ (ends : ℕ × ℕ). ends.1) points in
    omega arith

-- the sums of the ends enclose the sum of the values
pub sums-enclosed : (d : ℕ) (points : List (ℕ × ℕ)) (values : List ℕ) → Within d points values → IsBetween (sum (lows points), sum (highs points)) (record { top = sum values; bottom = d })
sums-enclosed d [] [] within = (omega arith, omega arith)
sums-enclosed d [] (v ∷ values) within = elim within [ ]
sums-enclosed d (p ∷ points) [] within = elim within [ ]
sums-enclosed d (p ∷ points) (v ∷ values) (here, rest) =
    let more = sums-enclosed d points values rest in
    let low = ap (λ (s : ℕ). s * d) (sum_by-cons (λ (x : ℕ). x) p.0 (lows points)) in
    let high = ap (λ (s : ℕ). s * d) (sum_by-cons (λ (x : ℕ). x) p.1 (highs points)) in
    let exact = sum_by-cons (λ (x : ℕ). x) v values in
    (omega arith, omega arith)

-- ---- leasts
fold-min-le : (a : ℕ) (xs : List ℕ) → fold min a xs ≤ a
fold-min-le a [] = omega arith
fold-min-le a (x ∷ xs) = let less = fold-min-le (min a x) xs in omega arith

fold-min-mean : (a : ℕ) (xs : List ℕ) → fold min a xs * length xs ≤ sum xs
fold-min-mean a [] = omega arith
fold-min-mean a (x ∷ xs) =
    let less = fold-min-le (min a x) xs in
    let more = fold-min-mean (min a x) xs in
    let both = sum_by-cons (λ (x : ℕ). x) x xs in
    omega arith

-- the least number isn't above the mean
pub least-mean : (xs : List ℕ) → least xs * length xs ≤ sum xs
least-mean [] = omega arith
least-mean (x ∷ xs) =
    let less = fold-min-le x xs in
    let more = fold-min-mean x xs in
    let both = sum_by-cons (λ (x : ℕ). x) x xs in
    omega arith

pub le-min-mul : (t a b k : ℕ) → t ≤ a * k → t ≤ b * k → t ≤ min a b * k
le-min-mul t a b k one two =
    ⊎_elim
    (λ less. let is : min a b ≡ a = omega arith in let scaled = ap (λ (x : ℕ). x * k) is in omega arith)
    (λ more. let is : min a b ≡ b = omega arith in let scaled = ap (λ (x : ℕ). x * k) is in omega arith)
    (cases_lt a b)

min-enclosed : (d v w : ℕ) (p q : ℕ × ℕ) → IsBetween p (record { top = v; bottom = d }) → IsBetween q (record { top = w; bottom = d })
    → IsBetween (min p.0 q.0, min p.1 q.1) (record { top = min v w; bottom = d })
min-enclosed d v w p q one two =
    let left = mul-le (min p.0 q.0) d p.0 d (omega arith) (omega arith) in
    let right = mul-le (min p.0 q.0) d q.0 d (omega arith) (omega arith) in
    (omega arith, le-min-mul (min v w) p.1 q.1 d (omega arith) (omega arith))

folds-enclosed : (d v : ℕ) (p : ℕ × ℕ) (points : List (ℕ × ℕ)) (values : List ℕ) → IsBetween p (record { top = v; bottom = d }) → Within d points values
    → IsBetween (fold min p.0 (lows points), fold min p.1 (highs points)) (record { top = fold min v values; bottom = d })
folds-enclosed d v p [] [] this within = this
folds-enclosed d v p [] (w ∷ values) this within = elim within [ ]
folds-enclosed d v p (q ∷ points) [] this within = elim within [ ]
folds-enclosed d v p (q ∷ points) (w ∷ values) this (here, rest) =
    folds-enclosed d (min v w) (min p.0 q.0, min p.1 q.1) points values (min-enclosed d v w p q this here) rest

-- the least ends enclose the least value
pub leasts-enclosed : (d : ℕ) (points : List (ℕ × ℕ)) (values : List ℕ) → Within d points values → IsBetween (least (lows points), least (highs points)) (record { top = least values; bottom = d })
leasts-enclosed d [] [] within = (omega arith, omega arith)
leasts-enclosed d [] (v ∷ values) within = elim within [ ]
leasts-enclosed d (p ∷ points) [] within = elim within [ ]
leasts-enclosed d (p ∷ points) (v ∷ values) (here, rest) = folds-enclosed d v p points values here rest

-- ---- exact values that are there: the low ends
pub lows-within : (points : List (ℕ × ℕ)) → All (λ (ends : ℕ × ℕ). ends.0 ≤ ends.1) points → Within 1 points (lows points)
lows-within [] ordered = tt
lows-within (p ∷ points) ordered =
    let this = All-head (λ (ends : ℕ × ℕ). ends.0 ≤ ends.1) p points ordered in
    ((omega arith, omega arith), lows-within points (All-tail (λ (ends : ℕ × ℕ). ends.0 ≤ ends.1) p points ordered))

-- ---- what fits
fits : (xs : List ℕ) (x n : ℕ) → 1 ≤ n → length xs ≡ n → sum xs ≤ 1024 * 10 ^ 30 → x ≡ least xs → (1000 * x < 2 ^ 128) × (1000 * x * n < 2 ^ 128)
fits xs x n some long few is =
    let mean = least-mean xs in
    let same = ap (λ (y : ℕ). y * length xs) is in
    let counted = ap (λ (k : ℕ). x * k) long in
    let one = mul-le x 1 x n (omega arith) some in
    (omega arith, omega arith)

pub least-low-fits : (points : List (ℕ × ℕ)) → AreIntervals points → (x : ℕ) → x ≡ least (lows points) → (1000 * x < 2 ^ 128) × (1000 * x * length points < 2 ^ 128)
least-low-fits points are x is =
    let most = sum-lows-le points are in
    let few = are.few in
    fits (lows points) x (length points) are.some (length-map points (λ (ends : ℕ × ℕ). ends.0)) (omega arith) is

pub least-high-fits : (points : List (ℕ × ℕ)) → AreIntervals points → (x : ℕ) → x ≡ least (highs points) → (1000 * x < 2 ^ 128) × (1000 * x * length points < 2 ^ 128)
least-high-fits points are x is =
    let most = sum-highs-le points are in
    let few = are.few in
    fits (highs points) x (length points) are.some (length-map points (λ (ends : ℕ × ℕ). ends.1)) (omega arith) is

-- the least low end over the mean high end is at most a whole
pub low-quotient-le : (points : List (ℕ × ℕ)) → AreIntervals points → 1000 * least (lows points) * length points / sum (highs points) ≤ 1000
low-quotient-le points are =
    let mean = least-mean (lows points) in
    let counted = ap (λ (k : ℕ). least (lows points) * k) (length-map points (λ (ends : ℕ × ℕ). ends.0)) in
    let more = (sums-enclosed 1 points (lows points) (lows-within points are.ordered)).1 in
    div-le_of_le-mul (sum (highs points)) (omega arith)
