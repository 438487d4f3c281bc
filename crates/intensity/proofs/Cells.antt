-- The weights of a cell's corners come to its area.
use Rattle.std.proofs.Common.{◌≡◌, ℕ, ◌+◌, ◌-◌, ◌*◌, ◌/◌, ◌≤◌, ◌^◌, inl, inr, length, arith}
use Rattle.std.specs.Prelude.{All}
use Rattle.std.proofs.Math.ListN.{get_or-eq_default}
use Rattle.std.proofs.Math.Nat.{mul-le-mul_right, div-le_of_le-mul}
use Rattle.std.proofs.lemmas.Bool.{cases_lt}
use Rattle.std.proofs.lemmas.List.Elements.{All-get_or}
use Rattle.photo_web.specs.Web.{PhotometricWeb, value_at}
use Rattle.photo_web.specs.Validity.{IsWeb}
use Rattle.intensity.specs.declared.stretch.Stretch.{Stretch}
use Rattle.intensity.specs.Intensity.{IsWithin, weighted_sum}

-- four values that are limited, by the weights of a cell that is split on both sides
corners_limited : (most a b c d left past low high : ℕ) → a ≤ most → b ≤ most → c ≤ most → d ≤ most → a * (left * low) + b * (past * low) + c * (left * high) + d * (past * high) ≤ most * ((left + past) * (low + high))
corners_limited most a b c d left past low high ha hb hc hd =
    let wa = mul-le-mul_right (left * low) ha in
    let wb = mul-le-mul_right (past * low) hb in
    let wc = mul-le-mul_right (left * high) hc in
    let wd = mul-le-mul_right (past * high) hd in
    omega arith

-- no value is above the limit
value_limited : (w : PhotometricWeb) (plane gamma : ℕ) → All (λ value. value ≤ 10 ^ 15) w.values → value_at w plane gamma ≤ 10 ^ 15
value_limited w plane gamma limited =
    let place = plane * length w.gammas + gamma in
    elim (cases_lt place (length w.values)) [
      | inl inside ↦ All-get_or (λ value. value ≤ 10 ^ 15) w.values place 0 inside limited
      | inr past ↦ let none = get_or-eq_default w.values 0 past in omega arith
    ]

pub weighted_sum_limited : (w : PhotometricWeb) (plane gamma : Stretch) → IsWeb w → IsWithin w.planes plane → IsWithin w.gammas gamma → weighted_sum w plane gamma ≤ 10 ^ 15 * (plane.width * gamma.width)
unfolding weighted_sum
weighted_sum_limited w plane gamma web on_planes on_gammas =
    let whole : (plane.width - plane.past) + plane.past ≡ plane.width = omega (arith, on_planes.past) in
    let gamma_whole : (gamma.width - gamma.past) + gamma.past ≡ gamma.width = omega (arith, on_gammas.past) in
    let limited = λ (plane gamma : ℕ). value_limited w plane gamma web.limited in
    rw (whole, gamma_whole) at (corners_limited (10 ^ 15) _ _ _ _ (plane.width - plane.past) plane.past (gamma.width - gamma.past) gamma.past (limited plane.place gamma.place) (limited (plane.place + 1) gamma.place) (limited plane.place (gamma.place + 1)) (limited (plane.place + 1) (gamma.place + 1)))

-- a mean of limited values is limited
pub mean_limited : (sum area : ℕ) → sum ≤ 10 ^ 15 * area → sum / area ≤ 10 ^ 15
mean_limited sum area h = div-le_of_le-mul area (omega arith)
