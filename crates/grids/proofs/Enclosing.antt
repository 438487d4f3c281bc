-- The interval of a point encloses the light there.
use Rattle.std.proofs.Common.{◌≡◌, ℕ, zero, suc, ◌+◌, ◌*◌, ◌/◌, ◌<◌, ◌≤◌, ℤ, List, length, get_or, sym, subst, ◌∙◌, arith}
use Rattle.std.specs.Prelude.{slice_index}
use Rattle.std.specs.Int.{div_ceil}
use Rattle.std.proofs.lemmas.Grind.{div_ceil_times}
use Rattle.std.proofs.lemmas.Nat.{mul-le}
use Rattle.room_patches.specs.declared.patch.Patch.{Patch}
use Rattle.room_patches.specs.Rooms.{Room}
use Rattle.room_patches.specs.Patches.{patches}
use Rattle.grids.specs.declared.spec.GridSpec.{GridSpec}
use Rattle.grids.specs.Grids.{point_at}
use Rattle.grids.specs.GridPoint.{weights, reflected_light, low_end, high_end, light_between, EnclosesLight}
use Rattle.grids.proofs.Quotients.{times-le}
use Rattle.grids.proofs.Sums.{light_of_first, light_of_none, light_of_more, light_of_all}

-- where each flux is at most another, over a denominator each, so is what the patches reflect
module _ (all : List Patch) (point : List ℤ) (f g : ℕ → ℕ) (a b : ℕ) (each : (i : ℕ) → i < length all → f i * a ≤ g i * b) where
  first-le : (n : ℕ) → n ≤ length all → light_of_first n all point f * a ≤ light_of_first n all point g * b
  first-le zero h = let none = sym (light_of_none all point f) in rw none (omega arith)
  first-le (suc n) h =
      let next : suc n ≡ n + 1 = omega arith in
      let before = first-le n (omega arith) in
      let w : ℕ = slice_index (weights all point) n in
      let here = mul-le w (f n * a) w (g n * b) (omega arith) (each n (omega arith)) in
      rw (next, light_of_more all point f n, light_of_more all point g n) (omega arith)

  pub light-le : reflected_light all point f * a ≤ reflected_light all point g * b
  light-le = rw (← light_of_all all point f, ← light_of_all all point g) (first-le (length all) (omega arith))

-- a quotient that is cut, and what lies above it
below : (k direct low num den : ℕ) → low * den ≤ num → (direct + low / k) * (k * den) ≤ k * den * direct + num
below k direct low num den h = let cut = mul-le (low / k * k) den low den (times-le low k) (omega arith) in omega arith

-- a quotient that is rounded up, and what lies below it
above : (k direct high num den : ℕ) → 0 < k → num ≤ high * den → k * den * direct + num ≤ (direct + div_ceil high k) * (k * den)
above k direct high num den some h = reached (div_ceil high k) (div_ceil_times high k some).0
  where
    reached : (q : ℕ) → high ≤ q * k → k * den * direct + num ≤ (direct + q) * (k * den)
    reached q enough = let up = mul-le high den (q * k) den enough (omega arith) in omega arith

between : (room : Room) (grid : GridSpec) (direct : List ℕ) (bounds : List (ℕ × ℕ)) (g : ℕ) → EnclosesLight room grid direct bounds g (light_between room grid direct bounds g)
between room grid direct bounds g num den some each =
    let all : List Patch = patches room in
    let point : List ℤ = point_at grid g in
    let lower = light-le all point (low_end bounds) num den 1 (λ i inside. let here = (each i inside).0 in omega arith) in
    let upper = light-le all point num (high_end bounds) 1 den (λ i inside. let here = (each i inside).1 in omega arith) in (
      below 1000000000000000 (get_or direct g 0) (reflected_light all point (low_end bounds)) (reflected_light all point num) den (omega arith),
      above 1000000000000000 (get_or direct g 0) (reflected_light all point (high_end bounds)) (reflected_light all point num) den (omega arith) (omega arith),
    )

-- the same for ends that were reached step by step
pub encloses : (room : Room) (grid : GridSpec) (direct : List ℕ) (bounds : List (ℕ × ℕ)) (g : ℕ) (all : List Patch) (point : List ℤ) (low high top : ℕ) → all ≡ patches room → point ≡ point_at grid g
    → low ≡ reflected_light all point (low_end bounds) → high ≡ reflected_light all point (high_end bounds) → top ≡ div_ceil high 1000000000000000
    → EnclosesLight room grid direct bounds g (get_or direct g 0 + low / 1000000000000000, get_or direct g 0 + top)
encloses room grid direct bounds g all point low high top all_is point_is low_is high_is top_is =
    let least = sym (low_is ∙ (λ k. reflected_light (all_is k) (point_is k) (low_end bounds))) in
    let most = sym (top_is ∙ ((λ k. div_ceil (high_is k) 1000000000000000) ∙ (λ k. div_ceil (reflected_light (all_is k) (point_is k) (high_end bounds)) 1000000000000000))) in
    subst (EnclosesLight room grid direct bounds g) (λ k. (get_or direct g 0 + least k / 1000000000000000, get_or direct g 0 + most k)) (between room grid direct bounds g)
