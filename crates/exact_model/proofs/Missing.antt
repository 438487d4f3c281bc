-- The missing flux solves the system for what is unshot.
use Rattle.std.proofs.Common.{◌≡◌, ℕ, ◌+◌, ◌*◌, ◌<◌, ap, arith, ℤ, pos, ◌+ℤ◌, ◌-ℤ◌, ◌*ℤ◌}
use Rattle.std.proofs.lemmas.Int.{ints}
use borrow.Author.Differences.{up, down}
use Rattle.flux_system.specs.Sums.{sum_below}
use Rattle.flux_system.specs.System.{FluxSystem, scale, patches, coefficient}
use Rattle.flux_system.proofs.Sums.{sum-same, sum-add, sum-scale}
use Rattle.exact_model.specs.Solution.{sum_signed, IsSolution}
use Rattle.exact_model.specs.Laws.{MissingFluxComesFromTheUnshot}
use Rattle.exact_model.proofs.Signed.{sum-parts_by}

difference : (z : ℤ) (k : ℕ) → up (z -ℤ pos k) + (down z + k) ≡ down (z -ℤ pos k) + up z
difference z k = omega (arith, ints)

module _ (s : FluxSystem) (flux taken unshot : ℕ → ℕ) (num : ℕ → ℤ) (den : ℕ) (solves : IsSolution s flux num den)
    (account : (j : ℕ) → j < patches s → scale * taken j + unshot j ≡ scale * flux j + sum_below (patches s) (λ i. taken i * coefficient s i j)) where
  abbrev missing : ℕ → ℤ
  missing i = num i -ℤ pos (den * taken i)

  missing_solves : (j : ℕ) → j < patches s → pos scale *ℤ missing j ≡ pos (den * unshot j) +ℤ sum_signed (patches s) (λ i. pos (coefficient s i j) *ℤ missing i)
  missing_solves j h =
      let n = patches s in
      let c : ℕ → ℕ = λ i. coefficient s i j in
      let e = solves.equation j h in
      let whole = sum-parts_by n c num in
      let part = sum-parts_by n c missing in
      let each : sum_below n (λ i. c i * up (missing i) + (c i * down (num i) + den * (taken i * c i))) ≡ sum_below n (λ i. c i * down (missing i) + c i * up (num i)) =
      sum-same n _ _ (λ i l. let d = difference (num i) (den * taken i) in let m = ap (λ (y : ℕ). c i * y) d in omega arith) in
      let l = sum-add n (λ i. c i * up (missing i)) (λ i. c i * down (num i) + den * (taken i * c i)) in
      let l' = sum-add n (λ i. c i * down (num i)) (λ i. den * (taken i * c i)) in
      let l'' = sum-scale n den (λ i. taken i * c i) in
      let r = sum-add n (λ i. c i * down (missing i)) (λ i. c i * up (num i)) in
      let owed = ap (λ (y : ℕ). den * y) (account j h) in
      let here = difference (num j) (den * taken j) in
      omega (arith, ints)

pub missing_flux : MissingFluxComesFromTheUnshot
missing_flux s flux taken unshot num den solves account = record {
  positive = solves.positive;
  equation = missing_solves s flux taken unshot num den solves account;
}
