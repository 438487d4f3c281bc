-- The solutions for a direct flux: there is one, it is the only one, and its patches keep the direct flux.
use Rattle.std.proofs.Common.{◌≡◌, ℕ, ◌+◌, ◌*◌, ◌<◌, sym, ap, ◌∙◌, arith, ℤ, pos, ◌+ℤ◌, ◌*ℤ◌}
use borrow.Author.Differences.{up}
use Rattle.flux_system.specs.Sums.{sum_below}
use Rattle.flux_system.specs.System.{scale, patches, coefficient}
use Rattle.flux_system.proofs.Sums.{sum-scale}
use Rattle.exact_model.specs.Solution.{sum_signed}
use Rattle.exact_model.specs.Elimination.{equations_of, solution_of}
use Rattle.exact_model.specs.Laws.{EverySystemHasASolution, PatchesKeepTheDirectFlux, SolutionsAgree}
use Rattle.exact_model.proofs.Signed.{sum-pos}
use Rattle.exact_model.proofs.Rows.{scaled, same_solution}
use Rattle.exact_model.proofs.Existence.{elimination_solves}
use Rattle.exact_model.proofs.Solutions.{rows_below, never_negative, in_naturals, keeps_source}

-- an equation in natural numbers, and the same in signed ones
pub to_signed : (n k s : ℕ) (c y : ℕ → ℕ) (j : ℕ) → k * y j ≡ s + sum_below n (λ i. c i * y i) → pos k *ℤ pos (y j) ≡ pos s +ℤ sum_signed n (λ i. pos (c i) *ℤ pos (y i))
to_signed n k s c y j e = ap pos e ∙ sym (ap (λ (z : ℤ). pos s +ℤ z) (sum-pos n c y))

pub from_signed : (n k s : ℕ) (c y : ℕ → ℕ) (j : ℕ) → pos k *ℤ pos (y j) ≡ pos s +ℤ sum_signed n (λ i. pos (c i) *ℤ pos (y i)) → k * y j ≡ s + sum_below n (λ i. c i * y i)
from_signed n k s c y j e = ap up (e ∙ ap (λ (z : ℤ). pos s +ℤ z) (sum-pos n c y))

pub has_a_solution : EverySystemHasASolution
has_a_solution s flux valid =
    let f = solution_of s flux in
    let solved = elimination_solves (patches s) (equations_of s flux) (omega arith) (rows_below s valid) in
    record {
      positive = solved.positive;
      equation = λ j h. to_signed (patches s) scale (f.den * (scale * flux j)) (λ i. coefficient s i j) f.num j (solved.equation j h);
    }

pub keep_the_direct_flux : PatchesKeepTheDirectFlux
keep_the_direct_flux s flux num den valid solves =
    let out = sum-scale (patches s) scale flux in
    keeps_source s valid (λ j. scale * flux j) num den solves
    ∙ ap pos (ap (λ (t : ℕ). den * t) out ∙ omega arith)

pub agree : SolutionsAgree
agree s source num num' den den' valid solves solves' j h =
    let n = patches s in
    let c = coefficient s in
    let given : ℕ → ℕ = λ k. den * den' * source k in
    let one : (k : ℕ) → k < n → scale * (up (num k) * den') ≡ given k + sum_below n (λ i. c i k * (up (num i) * den')) =
    λ k l. let e = scaled n c scale den' (λ m. den * source m) (λ i. up (num i)) (in_naturals s valid source num den solves) k l in omega arith in
    let two : (k : ℕ) → k < n → scale * (up (num' k) * den) ≡ given k + sum_below n (λ i. c i k * (up (num' i) * den)) =
    λ k l. let e = scaled n c scale den (λ m. den' * source m) (λ i. up (num' i)) (in_naturals s valid source num' den' solves') k l in omega arith in
    let same = same_solution n c scale (rows_below s valid) given (λ i. up (num i) * den') (λ i. up (num' i) * den) one two j h in
    ap (λ (z : ℤ). z *ℤ pos den') (never_negative s valid source num den solves j h) ∙ (ap pos same ∙ sym (ap (λ (z : ℤ). z *ℤ pos den) (never_negative s valid source num' den' solves' j h)))
