-- Quotients by products with a reciprocal that was cut.
use Rattle.std.proofs.Common.{◌≡◌, ℕ, ◌*◌, ◌-◌, ◌/◌, ◌<◌, ◌≤◌, ◌∙◌, sym, arith}
use Rattle.std.proofs.lemmas.Nat.{mul-le, div-add-mod'}
use Rattle.transfer_shares.specs.Shares.{weight_share}
use Rattle.transfer_shares.proofs.Totals.{share-is}

-- both are cut, so the product is no greater than the true quotient
pub cut_quotient-le : (whole inverse total a b : ℕ) → a ≡ whole / 536870912 → b ≡ inverse → inverse * total ≤ 9903520314283042199192993792 → a * b / 18446744073709551616 * total ≤ whole
cut_quotient-le whole inverse total a b a_is b_is below =
    let q : ℕ = a * b / 18446744073709551616 in
    let cut = div-add-mod' (a * b) 18446744073709551616 in
    let by_total = mul-le (q * 18446744073709551616) total (a * b) total (omega arith) (omega arith) in
    let by_b = mul-le a (b * total) a 9903520314283042199192993792 (omega arith) (rw b_is below) in
    omega arith

-- a quotient is known by what is left
quotient_by_rest : (whole total q : ℕ) → q * total ≤ whole → whole - q * total < total → q ≡ whole / total
quotient_by_rest whole total q le rest = grind arith

pub share_by_rest : (total weight t w s q : ℕ) → t ≡ total → w ≡ weight → s ≡ q → 0 < total → q * t ≤ w * 999999999 → w * 999999999 - s * t < t → q ≡ weight_share total weight
share_by_rest total weight t w s q t_is w_is s_is some le rest =
    quotient_by_rest (weight * 999999999) total q (rw (← t_is, ← w_is) le) (rw (← t_is, ← w_is, ← s_is) rest) ∙ sym (share-is total some weight)
