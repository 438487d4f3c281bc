-- The fluxes that elimination gives solve the equations.
use Rattle.std.proofs.Common.{◌≡◌, ℕ, zero, suc, ◌+◌, ◌-◌, ◌*◌, ◌<◌, cond, refl, sym, ap, subst, ◌∙◌, arith, eq-eqb, ne_eqb}
use mathlib.Core.Logic.{dite}
use native.Mathlib.Decide.{ℕ_discrete}
use Rattle.std.proofs.lemmas.Nat.{mul-le}
use Rattle.flux_system.specs.Sums.{sum_below}
use Rattle.flux_system.proofs.Sums.{sum-same, sum-add, sum-scale}
use Rattle.exact_model.specs.Elimination.{Equations, Fractions, remaining_scale, equations_without, fluxes_with, elimination_fluxes}

-- the fluxes solve the equations of the first n patches
pub record AreSolved (n : ℕ) (e : Equations) (f : Fractions) : Type 0 where
  pub positive : 0 < f.den
  pub equation : (j : ℕ) → j < n → e.scale * f.num j ≡ f.den * e.source j + sum_below n (λ i. e.passes i j * f.num i)

mul-lt : (d a b : ℕ) → 0 < d → a < b → a * d < b * d
mul-lt d a b p l = let m = mul-le (suc a) d b d (omega arith) (omega arith) in omega arith

-- one step: patch z, the last, is eliminated
module _ (z k : ℕ) (c : ℕ → ℕ → ℕ) (rows : (i : ℕ) → i < suc z → sum_below (suc z) (c i) < k) where
  abbrev d : ℕ
  d = k - c z z

  d_is : d + c z z ≡ k
  d_is = let r = rows z (omega arith) in omega arith

  d_pos : 0 < d
  d_pos = let r = rows z (omega arith) in omega arith

  abbrev fewer : ℕ → ℕ → ℕ
  fewer i j = d * c i j + c i z * c z j

  -- row totals stay below the scale
  fewer_rows : (i : ℕ) → i < z → sum_below z (fewer i) < k * d
  fewer_rows i h =
      let r = rows i (omega arith) in
      let last = rows z (omega arith) in
      let parts = sum-add z (λ j. d * c i j) (λ j. c i z * c z j) in
      let one = sum-scale z d (c i) in
      let two = sum-scale z (c i z) (c z) in
      let below = mul-le (c i z) (sum_below z (c z)) (c i z) d (omega arith) (omega arith) in
      let top = mul-lt d (sum_below z (c i) + c i z) k d_pos r in
      omega arith

  -- its back substitution
  module _ (b : ℕ → ℕ) (f : Fractions) where
    abbrev whole : Equations
    whole = record { scale = k; passes = c; source = b }

    abbrev back : ℕ → ℕ
    back = (fluxes_with z whole f).num

    abbrev last : ℕ
    last = f.den * b z + sum_below z (λ i. c i z * f.num i)

    back-last : back z ≡ last
    back-last = ap (λ t. cond t last (d * f.num z)) (eq-eqb z z refl)

    back-other : (j : ℕ) → j < z → back j ≡ d * f.num j
    back-other j h = ap (λ t. cond t last (d * f.num j)) (ne_eqb j z (λ e. omega arith))

    -- what the other patches pass on to j
    from_others : (j : ℕ) → sum_below z (λ i. c i j * back i) ≡ d * sum_below z (λ i. c i j * f.num i)
    from_others j = sum-same z _ (λ i. d * (c i j * f.num i)) (λ i h. let m = ap (λ (t : ℕ). c i j * t) (back-other i h) in omega arith) ∙ sum-scale z d (λ i. c i j * f.num i)

    -- the same by the equations without z
    from_fewer : (j : ℕ) → sum_below z (λ i. fewer i j * f.num i) ≡ d * sum_below z (λ i. c i j * f.num i) + c z j * sum_below z (λ i. c i z * f.num i)
    from_fewer j =
        let split : sum_below z (λ i. fewer i j * f.num i) ≡ sum_below z (λ i. d * (c i j * f.num i) + c z j * (c i z * f.num i)) = sum-same z _ _ (λ i h. omega arith) in
        let parts = sum-add z (λ i. d * (c i j * f.num i)) (λ i. c z j * (c i z * f.num i)) in
        let one = sum-scale z d (λ i. c i j * f.num i) in
        let two = sum-scale z (c z j) (λ i. c i z * f.num i) in
        omega arith

    abbrev Equation : ℕ → Type 0
    Equation j = k * back j ≡ d * f.den * b j + sum_below (suc z) (λ i. c i j * back i)

    at_last : Equation z
    at_last =
        let here = back-last in
        let rest = from_others z in
        let left = ap (λ (t : ℕ). k * t) back-last in
        let right = ap (λ (t : ℕ). c z z * t) back-last in
        let split = ap (λ (t : ℕ). t * last) d_is in
        omega arith

    module _ (solved : AreSolved z (equations_without z whole) f) where
      at_other : (j : ℕ) → j < z → Equation j
      at_other j h =
          let rest = from_others j in
          let left = ap (λ (t : ℕ). k * t) (back-other j h) in
          let right = ap (λ (t : ℕ). c z j * t) back-last in
          let parts = from_fewer j in
          let old = solved.equation j h in
          omega arith

      one_more : AreSolved (suc z) whole (fluxes_with z whole f)
      one_more = record {
        positive = let p = solved.positive in let q = d_pos in let m = mul-le 1 1 d f.den (omega arith) (omega arith) in omega arith;
        equation = λ j h. dite (ℕ_discrete j z) (λ e. subst Equation (sym e) at_last) (λ ne. at_other j (omega arith));
      }

-- and so all of them, one patch after the other
pub elimination_solves : (n : ℕ) (e : Equations) → 0 < e.scale → ((i : ℕ) → i < n → sum_below n (e.passes i) < e.scale) → AreSolved n e (elimination_fluxes n e)
unfolding elimination_fluxes
elimination_solves zero e some rows = record { positive = omega arith; equation = λ j h. absurd (omega arith) }
elimination_solves (suc z) e some rows =
    let left = d_pos z e.scale e.passes rows in
    let product = mul-le 1 1 e.scale (remaining_scale z e) (omega arith) (omega arith) in
    one_more z e.scale e.passes rows e.source _ (elimination_solves z (equations_without z e) (omega arith) (fewer_rows z e.scale e.passes rows))
