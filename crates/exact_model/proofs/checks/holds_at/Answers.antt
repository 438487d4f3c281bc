use Rattle.std.proofs.Common.{◌≡◌, ℕ, ◌+◌, ◌*◌, ◌<◌, ◌≤◌, get_or, ap, ◌∙◌, sym, arith, add-one, eq-eqb, eqb-true}
use Rattle.std.proofs.lemmas.Nat.{mul-le}
use Rattle.flux_system.specs.Sums.{sum_below}
use Rattle.flux_system.specs.System.{FluxSystem, patches, scale, coefficient}
use Rattle.flux_system.specs.Validity.{IsSystem}
use Rattle.flux_system.proofs.Sums.{le-sum}
use Rattle.flux_system.proofs.Keeping.{passed_part-lt}
use Rattle.exact_model.proofs.checks.holds_at.Goals as goal

-- what one patch passes on to another is below 2^64 times the scale
term_fits : (s : FluxSystem) → IsSystem s → (i j x a b : ℕ) → i < patches s → j < patches s → a ≡ coefficient s i j → b ≡ x → x < 18446744073709551616 → a * b ≤ 18446744073709551616000000000000
term_fits s valid i j x a b from to a_is b_is fits =
    let lt = passed_part-lt s valid i from in
    let one = le-sum (patches s) (coefficient s i) j to in
    let m = mul-le a b 1000000000000 18446744073709551616 (omega arith) (omega arith) in
    omega arith

pub overflow_add-reaches : goal.overflow_add-reaches
overflow_add-reaches c =
    let fits = c.type_inv.num c.loop-from.from in
    let few = c.requires.system.few in
    let term = term_fits c.args.system.now c.requires.system c.loop-from.from c.args.patch (get_or c.args.num.now c.loop-from.from 0) _ _ (omega arith) c.requires.patch (c.from-in-loop-from.ensures ∙ c.coef.ensures) c.from-in-loop-from-2.ensures (omega arith) in
    omega arith

pub loop-from-preserved : goal.loop-from-preserved
loop-from-preserved c =
    let s = c.args.system.now in
    let i = c.loop-from.from in
    let fits = c.type_inv.num i in
    let a = c.from-in-loop-from.ensures ∙ c.coef.ensures in
    let b = c.from-in-loop-from-2.ensures in
    let term = term_fits s c.requires.system i c.args.patch (get_or c.args.num.now i 0) _ _ (omega arith) c.requires.patch a b (omega arith) in
    let old = c.loop-from.invariant.small in
    record {
      so_far = next _ _ _ _ _ _ c.loop-from.invariant.so_far (λ k. a k * b k) (ap (λ (m : ℕ). sum_below m (λ i. coefficient s i c.args.patch * get_or c.args.num.now i 0)) (add-one i));
      small = omega arith;
    }
  where
    next : (reaching_flux term x t sum more : ℕ) → reaching_flux ≡ x + sum → term ≡ t → more ≡ sum + t → reaching_flux + term ≡ x + more
    next reaching_flux term x t sum more e f g = omega arith

pub returns : goal.returns
returns c =
    let s = c.args.system.now in
    let end : c.loop-from.from ≡ patches s = omega arith in
    let reaching_flux = c.loop-from.invariant.so_far ∙ ap (λ (m : ℕ). c.args.den * (scale * c.args.direct) + sum_below m (λ i. coefficient s i c.args.patch * get_or c.args.num.now i 0)) end in
    let left = ap (λ (t : ℕ). scale * t) c.from-3.ensures in
    (λ t. sym left ∙ (eqb-true _ _ t ∙ reaching_flux), λ e. eq-eqb _ _ (left ∙ (e ∙ sym reaching_flux)))
