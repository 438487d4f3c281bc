-- A flux system in numbers of 32 bits meets and fails the same duties, and where it meets them no number was another.
use Rattle.std.proofs.Common.{◌≡◌, ℕ, zero, suc, ◌+◌, ◌*◌, ◌/◌, ◌%◌, ◌<◌, ◌≤◌, ◌^◌, List, [], ◌∷◌, length, get_or, map, None, min, refl, ap, arith, true, ◌⊎◌, inl, inr, ◌&&◌}
use Rattle.std.specs.Prelude.{slice_index, nat_lt, nat_le, ◌==◌}
use Rattle.std.proofs.lemmas.List.{length-map}
use Rattle.std.proofs.lemmas.Nat.{div_below}
use Rattle.std.proofs.lemmas.Bool.{cases_lt}
use Rattle.std.proofs.lemmas.Bool.Decides.{nat_tests}
use Rattle.duties.proofs.Orders.{each_met, all_met, unless_met}
use Rattle.flux_system.specs.declared.TheConstants.{MOST_PATCHES}
use Rattle.flux_system.specs.declared.faults.SystemFault.TheVariants.{Size, Threshold, Reflectance, RowTotal}
use Rattle.duties.specs.Duties.{unless, first, each}
use Rattle.flux_system.specs.Sums.{sum_below}
use Rattle.flux_system.proofs.Sums.{le-sum}
use Rattle.flux_system.specs.System.{FluxSystem, share, row_total}
use Rattle.flux_system.specs.Validity.{system_duties}
use Rattle.system_file.specs.Shapes.{narrow_number, narrow_system}

-- past the end both are 0
narrow_at : (xs : List ℕ) (i : ℕ) → get_or (map narrow_number xs) i 0 ≡ narrow_number (get_or xs i 0)
narrow_at [] i = refl
narrow_at (x ∷ xs) zero = refl
narrow_at (x ∷ xs) (suc i) = narrow_at xs i

-- a sum of cut numbers is the sum, or both reach 10^9
narrow_sum : (n : ℕ) (f g : ℕ → ℕ) → ((k : ℕ) → g k ≡ narrow_number (f k)) → (sum_below n g ≡ sum_below n f) ⊎ ((10 ^ 9 ≤ sum_below n g) × (10 ^ 9 ≤ sum_below n f))
narrow_sum zero f g h = inl refl
narrow_sum (suc n) f g h =
    let before = narrow_sum n f g h in
    let here : g n ≡ min (f n) 4294967295 = h n in
    elim before [
      | inl same ↦ elim (cases_lt (f n) 4294967295) [ inl low ↦ inl (omega arith) | inr high ↦ inr (omega arith, omega arith) ]
      | inr both ↦ inr (omega (arith, both.0), omega (arith, both.1))
    ]

rows_same : (s : FluxSystem) (i : ℕ) → nat_lt (row_total (narrow_system s) i) (10 ^ 9) ≡ nat_lt (row_total s i) (10 ^ 9)
rows_same s i =
    let n : length (map narrow_number s.reflectance) ≡ length s.reflectance = length-map s.reflectance narrow_number in
    let total : row_total (narrow_system s) i ≡ sum_below (length s.reflectance) (λ (j : ℕ). get_or (map narrow_number s.shares) (i * length s.reflectance + j) 0) = λ k. sum_below (n k) (λ (j : ℕ). get_or (map narrow_number s.shares) (i * n k + j) 0) in
    rw total (tests_same _ _ (narrow_sum (length s.reflectance) (share s i) (λ (j : ℕ). get_or (map narrow_number s.shares) (i * length s.reflectance + j) 0) (λ j. narrow_at s.shares (i * length s.reflectance + j))))
  where
    tests_same : (a b : ℕ) → (a ≡ b) ⊎ ((10 ^ 9 ≤ a) × (10 ^ 9 ≤ b)) → nat_lt a (10 ^ 9) ≡ nat_lt b (10 ^ 9)
    tests_same a b (inl same) = ap (λ (x : ℕ). nat_lt x (10 ^ 9)) same
    tests_same a b (inr both) = grind (arith, nat_tests)

reflectances_same : (s : FluxSystem) (i : ℕ) → nat_le (slice_index (map narrow_number s.reflectance) i) 950 ≡ nat_le (slice_index s.reflectance i) 950
reflectances_same s i = rw narrow_at (cut_same (get_or s.reflectance i 0))
  where
    cut_same : (x : ℕ) → nat_le (narrow_number x) 950 ≡ nat_le x 950
    cut_same x = grind (arith, nat_tests)

-- the first duty that isn't met is the same
pub narrow_duties : (s : FluxSystem) → first (system_duties (narrow_system s)) ≡ first (system_duties s)
unfolding system_duties
narrow_duties s =
    let n : length (map narrow_number s.reflectance) ≡ length s.reflectance = length-map s.reflectance narrow_number in
    let m : length (map narrow_number s.shares) ≡ length s.shares = length-map s.shares narrow_number in
    λ k. first (unless (nat_le 1 (n k) && nat_le (n k) MOST_PATCHES && (m k == n k * n k)) (Size (n k))
    ∷ unless (nat_le 1 s.threshold && nat_le s.threshold (10 ^ 16)) Threshold
    ∷ each (n k) (λ i. unless (reflectances_same s i k) (Reflectance i))
    ∷ each (n k) (λ i. unless (rows_same s i k) (RowTotal i))
    ∷ [])

-- numbers of 32 bits aren't cut
narrow_list_same : (xs : List ℕ) → ((i : ℕ) → i < length xs → get_or xs i 0 ≤ 4294967295) → map narrow_number xs ≡ xs
narrow_list_same [] low = refl
narrow_list_same (x ∷ xs) low =
    let here : narrow_number x ≡ x = let small = low 0 (omega arith) in omega arith in
    λ k. here k ∷ narrow_list_same xs (λ i inside. low (suc i) (omega arith)) k

lt_from_test : (a b : ℕ) → nat_lt a b ≡ true → a < b
lt_from_test a b h = grind (arith, nat_tests)

le_from_test : (a b : ℕ) → nat_le a b ≡ true → a ≤ b
le_from_test a b h = grind (arith, nat_tests)

square_from_test : (n m : ℕ) → (nat_le 1 n && nat_le n MOST_PATCHES && (m == n * n)) ≡ true → m ≡ n * n
square_from_test n m h = grind (arith, nat_tests)

some_rows : (k n : ℕ) → k < n * n → 0 < n
some_rows k zero inside = absurd (omega arith)
some_rows k (suc n) inside = omega arith

-- where all are met, the system is the same
pub narrow_system_same : (s : FluxSystem) → first (system_duties s) ≡ None → narrow_system s ≡ s
unfolding system_duties
narrow_system_same s met =
    let sized = all_met _ _ met in
    let positive = all_met _ _ sized.1 in
    let bright = all_met _ _ positive.1 in
    let full = all_met _ _ bright.1 in
    let n = length s.reflectance in
    let square : length s.shares ≡ n * n = square_from_test n (length s.shares) (unless_met _ _ sized.0) in
    let low : (i : ℕ) → i < length s.reflectance → get_or s.reflectance i 0 ≤ 4294967295 = λ i inside.
    let limited = le_from_test (get_or s.reflectance i 0) 950 (unless_met _ _ (each_met (λ (i : ℕ). unless (nat_le (slice_index s.reflectance i) 950) (Reflectance i)) n i bright.0 inside)) in omega arith in
    let rows : (k : ℕ) → k < length s.shares → get_or s.shares k 0 ≤ 4294967295 = λ k inside.
    let some : 0 < n = some_rows k n (omega arith) in
    let i : k / n < n = div_below k n n some (omega arith) in
    let total = lt_from_test (row_total s (k / n)) (10 ^ 9) (unless_met _ _ (each_met (λ (i : ℕ). unless (nat_lt (row_total s i) (10 ^ 9)) (RowTotal i)) n (k / n) full.0 i)) in
    let share_below = le-sum n (share s (k / n)) (k % n) (omega arith) in
    let place : k / n * n + k % n ≡ k = omega arith in
    let here : get_or s.shares (k / n * n + k % n) 0 ≤ 4294967295 = omega arith in
    rw place at here in
    λ k. record { threshold = s.threshold; reflectance = narrow_list_same s.reflectance low k; shares = narrow_list_same s.shares rows k }
