-- What was taken of a patch, and what all takes passed on, once t nanolumens more are taken there.
use Rattle.std.proofs.Common.{◌≡◌, ◌≢◌, ℕ, ◌+◌, ◌*◌, ◌<◌, List, length, get_or, set, sym, ap, subst, arith, get_or-set_same, get_or-set_other}
use mathlib.Core.Logic.{dite}
use native.Mathlib.Decide.{ℕ_discrete}
use Rattle.flux_system.specs.Sums.{sum_below}
use Rattle.flux_system.specs.System.{FluxSystem, patches, coefficient}
use Rattle.flux_system.proofs.Sums.{sum-change}
use Rattle.flux_ledger.specs.Balance.{passed_to}
use Rattle.shot_core.proofs.Lists.{set-zero}

module _ (taken : List ℕ) (i t : ℕ) (long : i < length taken) where
  abbrev more : List ℕ
  more = set taken i (get_or taken i 0 + t)

  pub taken_here : get_or more i 0 ≡ get_or taken i 0 + t
  taken_here = get_or-set_same taken i (get_or taken i 0 + t) 0 long

  pub taken_elsewhere : (k : ℕ) → k ≢ i → get_or more k 0 ≡ get_or taken k 0
  taken_elsewhere k ne = get_or-set_other taken i k (get_or taken i 0 + t) 0 ne

  -- taken and left together stay, before anything is passed on
  pub taken_moved : (left : List ℕ) → t ≡ get_or left i 0 → (j : ℕ) → get_or more j 0 + get_or (set left i 0) j 0 ≡ get_or taken j 0 + get_or left j 0
  taken_moved left all j =
      dite (ℕ_discrete j i)
      (λ is. subst (λ (k : ℕ). get_or more k 0 + get_or (set left i 0) k 0 ≡ get_or taken k 0 + get_or left k 0) (sym is)
      (let none = set-zero left i in let here = taken_here in omega arith))
      (λ ne. let rest = get_or-set_other left i j 0 0 ne in let there = taken_elsewhere j ne in omega arith)

  module _ (s : FluxSystem) (inside : i < patches s) where
    pub taken_sum : sum_below (patches s) (λ k. get_or more k 0) ≡ sum_below (patches s) (λ k. get_or taken k 0) + t
    taken_sum =
        let change = sum-change (patches s) (λ k. get_or taken k 0) (λ k. get_or more k 0) i inside taken_elsewhere in
        let here = taken_here in
        omega arith

    pub passed_more : (j : ℕ) → passed_to s more j ≡ passed_to s taken j + t * coefficient s i j
    passed_more j =
        let c : ℕ → ℕ = λ k. coefficient s k j in
        let change = sum-change (patches s) (λ k. get_or taken k 0 * c k) (λ k. get_or more k 0 * c k) i inside (λ k ne. ap (λ (y : ℕ). y * c k) (taken_elsewhere k ne)) in
        let here : get_or more i 0 * c i ≡ (get_or taken i 0 + t) * c i = ap (λ (y : ℕ). y * c i) taken_here in
        omega arith
