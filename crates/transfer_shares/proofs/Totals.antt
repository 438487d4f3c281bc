-- The shares of a row sum to less than the whole.
use Rattle.std.proofs.Common.{◌≡◌, ℕ, zero, suc, ◌*◌, ◌/◌, ◌<◌, ◌≤◌, ◌⊎◌, inl, inr, List, [], ◌∷◌, map, length, take, refl, sym, subst, ap, ◌∙◌, arith}
use Rattle.std.specs.List.{sum, sum_by}
use Rattle.std.proofs.lemmas.Bool.{cases_lt, ne_eqb}
use Rattle.std.proofs.lemmas.Nat.{mul-le, div-add-mod'}
use Rattle.std.proofs.lemmas.List.{take_all, length-map, take-map}
use Rattle.std.proofs.lemmas.Simd.{map-map}
use Rattle.std.proofs.lemmas.List.Sums.{sum_by-cons, sum-map}
use Rattle.transfer_shares.specs.Shares.{weight_share, shares_of}

-- where nothing weighs there are no shares
no_shares : (weights : List ℕ) → sum (map (weight_share 0) weights) ≡ 0
no_shares [] = refl
no_shares (w ∷ weights) = let more = sum_by-cons (λ (x : ℕ). x) 0 (map (weight_share 0) weights) in let none = no_shares weights in omega arith

module _ (total : ℕ) (some : 0 < total) where
  pub share-is : (w : ℕ) → weight_share total w ≡ w * 999999999 / total
  share-is w = rw (ne_eqb total 0 (λ e. omega arith)) refl

  share-le : (w : ℕ) → weight_share total w * total ≤ w * 999999999
  share-le w = let cut = div-add-mod' (w * 999999999) total in rw (share-is w) (omega arith)

  -- each share is cut, and so is their sum
  shares-le : (weights : List ℕ) → sum (map (weight_share total) weights) * total ≤ 999999999 * sum weights
  shares-le [] = omega arith
  shares-le (w ∷ weights) =
      let first = share-le w in
      let others = shares-le weights in
      let shares = sum_by-cons (λ (x : ℕ). x) (weight_share total w) (map (weight_share total) weights) in
      let both = sum_by-cons (λ (x : ℕ). x) w weights in
      rw (shares, both) (omega arith)

  below_whole : (s : ℕ) → (999999999 < s) ⊎ (s ≤ 999999999) → s * total ≤ 999999999 * total → s ≤ 999999999
  below_whole s (inl h) le = let m = mul-le 1000000000 total s total (omega arith) (omega arith) in absurd (omega arith)
  below_whole s (inr h) le = h

  some-le : (weights : List ℕ) → sum weights ≡ total → sum (map (weight_share total) weights) ≤ 999999999
  some-le weights e =
      below_whole (sum (map (weight_share total) weights)) (cases_lt _ _) (subst (λ (t : ℕ). sum (map (weight_share total) weights) * total ≤ 999999999 * t) e (shares-le weights))

total-le : (total : ℕ) (weights : List ℕ) → sum weights ≡ total → sum (map (weight_share total) weights) ≤ 999999999
total-le zero weights e = let none = no_shares weights in omega arith
total-le (suc total) weights e = some-le (suc total) (omega arith) weights e

pub shares_of-le : (weights : List ℕ) → sum (shares_of weights) ≤ 999999999
unfolding shares_of
shares_of-le weights = total-le (sum weights) weights refl

-- what the loop over the weights leaves
pub shares_by_total : (weights shares : List ℕ) (total : ℕ) → total ≡ sum weights → shares ≡ map (weight_share total) weights → shares ≡ shares_of weights
unfolding shares_of
shares_by_total weights shares total e h = subst (λ (t : ℕ). shares ≡ map (weight_share t) weights) e h

-- the same once all places are written
pub shares_by_places : (i total : ℕ) (weights into : List ℕ) → total ≡ sum weights → length into ≡ length weights → length weights ≤ i → take i into ≡ map (weight_share total) (take i weights) → into ≡ shares_of weights
shares_by_places i total weights into e same done h =
    shares_by_total weights into total e (sym (take_all i into (omega arith)) ∙ h ∙ ap (map (weight_share total)) (take_all i weights done))

-- and where each weight was found anew
pub shares_by_weights : {X : Type 0} (weigh : X → ℕ) (xs : List X) (i total : ℕ) (into : List ℕ) → total ≡ sum_by weigh xs → length into ≡ length xs → length xs ≤ i → take i into ≡ map (λ x. weight_share total (weigh x)) (take i xs) → into ≡ shares_of (map weigh xs)
shares_by_weights weigh xs i total into e same done h =
    let long = length-map xs weigh in
    shares_by_places i total (map weigh xs) into (e ∙ sym (sum-map weigh xs)) (omega arith) (omega arith)
    (h ∙ (sym (map-map (weight_share total) weigh (take i xs)) ∙ ap (map (weight_share total)) (sym (take-map weigh i xs))))
