-- The sums of a batch, and what they are carried to.
use Rattle.std.proofs.Common.{◌≡◌, ℕ, ◌+◌, ◌*◌, ◌/◌, ◌%◌, ◌<◌, ◌≤◌, List, length, replicate, get_or, refl, sym, ap, ◌∙◌, arith}
use Rattle.std.proofs.lemmas.List.{ext_get_or, length-replicate, get_or-replicate}
use Rattle.std.proofs.lemmas.Nat.{mul-le}
use Rattle.std.proofs.lemmas.List.FromFn.{fill_by_all}
use Rattle.flux_system.specs.System.{FluxSystem, scale, patches, share, coefficient}
use Rattle.flux_system.specs.Validity.{IsSystem}
use Rattle.flux_system.proofs.Sums.{le-sum}
use Rattle.shot_core.specs.Hands.{Holdings}
use Rattle.shot_core.specs.Shots.{parts_after, amounts_after, fractions_after}
use Rattle.shot_core.specs.Shapes.{AreSmall, parts_with, with_batch, IsBatch}
use Rattle.shot_core.proofs.Lists.{list-at, list-length}

-- a share is below the whole
pub share_below : (s : FluxSystem) → IsSystem s → (i j : ℕ) → i < patches s → j < patches s → share s i j < 1000000000
share_below s valid i j from to = let one = le-sum (patches s) (share s i) j to in let total = valid.rows i from in omega arith

pub product_below : (factor part : ℕ) → part < 1000000000 → factor * part ≤ factor * 1000000000
product_below factor part below = mul-le factor part factor 1000000000 (omega arith) (omega arith)

-- a list of zeros
pub zeros : (n : ℕ) (xs : List ℕ) → length xs ≡ n → ((j : ℕ) → j < n → get_or xs j 0 ≡ 0) → xs ≡ replicate n 0
zeros n xs long each = ext_get_or 0 xs (replicate n 0) (long ∙ sym (length-replicate n 0)) (λ j h. each j (omega arith) ∙ sym (get_or-replicate n j 0 0 (omega arith)))

zero-at : (n : ℕ) (xs : List ℕ) → xs ≡ replicate n 0 → (j : ℕ) → j < n → get_or xs j 0 ≡ 0
zero-at n xs is j h = ap (λ (ys : List ℕ). get_or ys j 0) is ∙ get_or-replicate n j 0 0 h

-- parts that are whole nanolumens and small fractions are the hand that the sums are carried to
pub carried : (hand new : Holdings) (highs lows : List ℕ) → length new.amounts ≡ length hand.amounts → length new.fractions ≡ length hand.amounts → AreSmall new.fractions
    → ((j : ℕ) → j < length hand.amounts → scale * get_or new.amounts j 0 + get_or new.fractions j 0 ≡ scale * get_or hand.amounts j 0 + parts_with highs lows hand.fractions j)
    → new ≡ with_batch hand highs lows
carried hand new highs lows of_amounts of_fractions small total =
    let amounts = fill_by_all (λ (j : ℕ). get_or hand.amounts j 0 + parts_with highs lows hand.fractions j / scale) new.amounts (length hand.amounts) 0 of_amounts
    (λ j h. let same = total j h in let below = small j (omega arith) in omega arith) in
    let fractions = fill_by_all (λ (j : ℕ). parts_with highs lows hand.fractions j % scale) new.fractions (length hand.amounts) 0 of_fractions
    (λ j h. let same = total j h in let below = small j (omega arith) in omega arith) in
    λ k. record { amounts = amounts k; fractions = fractions k }

-- a hand that sums were carried to
module _ (hand : Holdings) (highs lows : List ℕ) where
  n : ℕ
  n = length hand.amounts

  abbrev new : Holdings
  new = with_batch hand highs lows

  pub carried-amounts : length new.amounts ≡ length hand.amounts
  carried-amounts = list-length (λ j. get_or hand.amounts j 0 + parts_with highs lows hand.fractions j / scale) (length hand.amounts)

  pub carried-fractions : length new.fractions ≡ length hand.amounts
  carried-fractions = list-length (λ j. parts_with highs lows hand.fractions j % scale) (length hand.amounts)

  pub amount-carried : (j : ℕ) → j < length hand.amounts → get_or new.amounts j 0 ≡ get_or hand.amounts j 0 + parts_with highs lows hand.fractions j / scale
  amount-carried j h = list-at (λ j. get_or hand.amounts j 0 + parts_with highs lows hand.fractions j / scale) (length hand.amounts) j h

  pub fraction-carried : (j : ℕ) → j < length hand.amounts → get_or new.fractions j 0 ≡ parts_with highs lows hand.fractions j % scale
  fraction-carried j h = list-at (λ j. parts_with highs lows hand.fractions j % scale) (length hand.amounts) j h

  pub small_carried : AreSmall new.fractions
  small_carried j h = let long = carried-fractions in let is = fraction-carried j (omega arith) in omega arith

  pub total_carried : (j : ℕ) → j < length hand.amounts → scale * get_or new.amounts j 0 + get_or new.fractions j 0 ≡ scale * get_or hand.amounts j 0 + parts_with highs lows hand.fractions j
  total_carried j h = let amount = amount-carried j h in let fraction = fraction-carried j h in omega arith

-- sums that are 0, as those of no shot are
module _ (hand : Holdings) (of_fractions : length hand.fractions ≡ length hand.amounts) (small : AreSmall hand.fractions) (highs lows : List ℕ) where
  pub empty_batch : (n : ℕ) → length hand.amounts ≡ n → highs ≡ replicate n 0 → lows ≡ replicate n 0
      → ((j : ℕ) → j < n → scale * get_or hand.amounts j 0 + get_or hand.fractions j 0 < scale * 18446744073709551616) → IsBatch hand highs lows 0 0
  empty_batch n n_is no_high no_low fit = record {
    of_fractions = of_fractions;
    small = small;
    of_highs = ap length no_high ∙ (length-replicate n 0 ∙ sym n_is);
    of_lows = ap length no_low ∙ (length-replicate n 0 ∙ sym n_is);
    few = omega arith;
    limited = omega arith;
    high = λ j h. let zero = zero-at n highs no_high j (omega arith) in omega arith;
    low = λ j h. let zero = zero-at n lows no_low j (omega arith) in omega arith;
    fits = λ j h. let high = zero-at n highs no_high j (omega arith) in let low = zero-at n lows no_low j (omega arith) in let fits = fit j (omega arith) in omega arith;
  }

  -- nothing is carried from them
  pub nothing_carried : ((j : ℕ) → j < length hand.amounts → get_or highs j 0 ≤ 0) → ((j : ℕ) → j < length hand.amounts → get_or lows j 0 ≤ 0) → with_batch hand highs lows ≡ hand
  nothing_carried no_high no_low =
      sym (carried hand hand highs lows (λ _. length hand.amounts) of_fractions small (λ j h. let high = no_high j h in let low = no_low j h in omega arith))

-- a batch of no shots has no sums
module _ (hand : Holdings) (highs lows : List ℕ) (shots most : ℕ) (batch : IsBatch hand highs lows shots most) (none : shots ≡ 0) where
  pub no_high : (j : ℕ) → j < length hand.amounts → get_or highs j 0 ≤ 0
  no_high j h = let limited = batch.limited in let high = batch.high j h in omega arith

  pub no_low : (j : ℕ) → j < length hand.amounts → get_or lows j 0 ≤ 0
  no_low j h = let low = batch.low j h in omega arith

-- a hand with nothing, and no sums
pub nothing_batched : (size : ℕ) (highs lows : List ℕ) → highs ≡ replicate size 0 → lows ≡ replicate size 0
    → with_batch (record { amounts = replicate size 0; fractions = replicate size 0 }) highs lows ≡ record { amounts = replicate size 0; fractions = replicate size 0 }
nothing_batched size highs lows highs_are lows_are =
    let long : length (replicate {A = ℕ} size 0) ≡ size = length-replicate size 0 in
    nothing_carried (record { amounts = replicate size 0; fractions = replicate size 0 }) refl (λ j h. let none : get_or (replicate {A = ℕ} size 0) j 0 ≡ 0 = get_or-replicate size j 0 0 (omega arith) in omega arith) highs lows
    (λ j h. let zero = zero-at size highs highs_are j (omega arith) in omega arith) (λ j h. let zero = zero-at size lows lows_are j (omega arith) in omega arith)

-- a shot is booked
module _ (s : FluxSystem) (i t : ℕ) (hand : Holdings) (highs lows : List ℕ) (n_is : length hand.amounts ≡ patches s) where
  abbrev before : Holdings
  before = with_batch hand highs lows

  abbrev after : Holdings
  after = record { amounts = amounts_after s i t before.amounts before.fractions; fractions = fractions_after s i t before.fractions }

  -- by the hand itself, once it has all that was in the sums
  module _ (shots most : ℕ) (none : shots ≡ 0) (batch : IsBatch hand highs lows shots most) (new : Holdings) (amounts : new.amounts ≡ after.amounts) (fractions : new.fractions ≡ after.fractions) where
    small : AreSmall new.fractions
    small j h =
        let long = ap length fractions ∙ list-length (λ j. parts_after s i t before.fractions j % scale) (patches s) in
        let is = ap (λ (xs : List ℕ). get_or xs j 0) fractions ∙ list-at (λ j. parts_after s i t before.fractions j % scale) (patches s) j (omega arith) in
        omega arith

    of_amounts : length new.amounts ≡ patches s
    of_amounts = ap length amounts ∙ list-length (λ j. get_or before.amounts j 0 + parts_after s i t before.fractions j / scale) (patches s)

    of_fractions : length new.fractions ≡ patches s
    of_fractions = ap length fractions ∙ list-length (λ j. parts_after s i t before.fractions j % scale) (patches s)

    pub batch_kept : ((j : ℕ) → j < patches s → get_or after.amounts j 0 < 18446744073709551616) → IsBatch new highs lows shots most
    batch_kept fit = record {
      of_fractions = of_fractions ∙ sym of_amounts;
      small = small;
      of_highs = batch.of_highs ∙ (n_is ∙ sym of_amounts);
      of_lows = batch.of_lows ∙ (n_is ∙ sym of_amounts);
      few = batch.few;
      limited = batch.limited;
      high = λ j h. let n = of_amounts in batch.high j (omega arith);
      low = λ j h. let n = of_amounts in batch.low j (omega arith);
      fits = λ j h.
          let n = of_amounts in
          let long = of_fractions in
          let limited = batch.limited in
          let high = batch.high j (omega arith) in
          let low = batch.low j (omega arith) in
          let fits = fit j (omega arith) in
          let is = ap (λ (xs : List ℕ). get_or xs j 0) amounts in
          let below = small j (omega arith) in
          omega arith;
    }

    pub booked_alone : with_batch new highs lows ≡ after
    booked_alone =
        let n = of_amounts in
        nothing_carried new (of_fractions ∙ sym of_amounts) small highs lows (λ j h. no_high hand highs lows shots most batch none j (omega arith)) (λ j h. no_low hand highs lows shots most batch none j (omega arith))
        ∙ (λ k. record { amounts = amounts k; fractions = fractions k })

  -- by the sums
  module _ (shots most factor : ℕ) (batch : IsBatch hand highs lows shots most) (new_highs new_lows : List ℕ) (of_highs : length new_highs ≡ patches s) (of_lows : length new_lows ≡ patches s)
      (factor_is : factor ≡ t * get_or s.reflectance i 0)
      (highs_are : (j : ℕ) → j < patches s → get_or new_highs j 0 ≡ get_or highs j 0 + factor / 1000000000 * share s i j)
      (lows_are : (j : ℕ) → j < patches s → get_or new_lows j 0 ≡ get_or lows j 0 + factor % 1000000000 * share s i j) where
    parts_are : (j : ℕ) → j < patches s → parts_with new_highs new_lows hand.fractions j ≡ parts_with highs lows hand.fractions j + t * coefficient s i j
    unfolding coefficient
    parts_are j h =
        let high = highs_are j h in
        let low = lows_are j h in
        let whole : factor / 1000000000 * 1000000000 + factor % 1000000000 ≡ factor = omega arith in
        let product : (factor / 1000000000 * 1000000000 + factor % 1000000000) * share s i j ≡ factor * share s i j = ap (λ (x : ℕ). x * share s i j) whole in
        let same : factor * share s i j ≡ t * (get_or s.reflectance i 0 * share s i j) = ap (λ (x : ℕ). x * share s i j) factor_is ∙ omega arith in
        omega arith

    amount-at : (j : ℕ) → j < patches s → get_or (with_batch hand new_highs new_lows).amounts j 0 ≡ get_or after.amounts j 0
    amount-at j h =
        let is = amount-carried hand new_highs new_lows j (omega arith) in
        let was = amount-carried hand highs lows j (omega arith) in
        let rest = fraction-carried hand highs lows j (omega arith) in
        let at = list-at (λ k. get_or before.amounts k 0 + parts_after s i t before.fractions k / scale) (patches s) j h in
        let parts = parts_are j h in
        omega arith

    fraction-at : (j : ℕ) → j < patches s → get_or (with_batch hand new_highs new_lows).fractions j 0 ≡ get_or after.fractions j 0
    fraction-at j h =
        let is = fraction-carried hand new_highs new_lows j (omega arith) in
        let rest = fraction-carried hand highs lows j (omega arith) in
        let at = list-at (λ k. parts_after s i t before.fractions k % scale) (patches s) j h in
        let parts = parts_are j h in
        omega arith

    pub booked_in_batch : with_batch hand new_highs new_lows ≡ after
    booked_in_batch =
        let n_amounts = carried-amounts hand new_highs new_lows in
        let n_fractions = carried-fractions hand new_highs new_lows in
        let m_amounts = list-length (λ k. get_or before.amounts k 0 + parts_after s i t before.fractions k / scale) (patches s) in
        let m_fractions = list-length (λ k. parts_after s i t before.fractions k % scale) (patches s) in
        let amounts = ext_get_or 0 (with_batch hand new_highs new_lows).amounts after.amounts (omega arith) (λ j h. amount-at j (omega arith)) in
        let fractions = ext_get_or 0 (with_batch hand new_highs new_lows).fractions after.fractions (omega arith) (λ j h. fraction-at j (omega arith)) in
        λ k. record { amounts = amounts k; fractions = fractions k }

    pub batch_with_shot : IsSystem s → i < patches s → shots < 16 → factor ≤ 9500000000000000000 → ((j : ℕ) → j < patches s → get_or after.amounts j 0 < 18446744073709551616)
        → IsBatch hand new_highs new_lows (shots + 1) (most + factor)
    batch_with_shot valid from some below fit = record {
      of_fractions = batch.of_fractions;
      small = batch.small;
      of_highs = of_highs ∙ sym n_is;
      of_lows = of_lows ∙ sym n_is;
      few = omega arith;
      limited = let limited = batch.limited in omega arith;
      high = λ j h.
          let high = batch.high j h in
          let is = highs_are j (omega arith) in
          let part = product_below (factor / 1000000000) (share s i j) (share_below s valid i j from (omega arith)) in
          omega arith;
      low = λ j h.
          let low = batch.low j h in
          let is = lows_are j (omega arith) in
          let part = product_below (factor % 1000000000) (share s i j) (share_below s valid i j from (omega arith)) in
          omega arith;
      fits = λ j h.
          let is = amount-carried hand new_highs new_lows j h in
          let same = amount-at j (omega arith) in
          let fits = fit j (omega arith) in
          omega arith;
    }
