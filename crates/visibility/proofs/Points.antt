-- A point of the segment lies between two faces where that fraction of the way lies within the stretch between them.
use Rattle.std.proofs.Common.{◌≡◌, ℕ, ◌+◌, ◌*◌, ◌-◌, ◌≤◌, ℤ, pos, ◌+ℤ◌, ◌-ℤ◌, ◌*ℤ◌, true, false, ap, ◌∙◌, arith}
use Rattle.std.specs.Prelude.{int_le, unsigned_abs}
use Rattle.std.proofs.lemmas.Int.{ints}
use Rattle.std.proofs.lemmas.Bool.{cond_both}
use Rattle.std.proofs.Math.IntN.{+ℤ_comm}
use borrow.Author.Differences.{up, down}
use Rattle.visibility.specs.declared.stretch.Stretch.{Stretch}
use Rattle.visibility.specs.Hidden.{IsBetween, weighted}
use Rattle.visibility.specs.Stretches.{stretch}
use Rattle.visibility.proofs.Ways.{IsWithin}

-- how far apart two coordinates lie, as a difference of naturals
apart : (from to : ℤ) → int_le from to ≡ true → unsigned_abs (to -ℤ from) + (down to + up from) ≡ up to + down from
apart from to rises = omega (arith, ints)

apart_back : (from to : ℤ) → int_le from to ≡ false → unsigned_abs (to -ℤ from) + (up to + down from) ≡ down to + up from
apart_back from to falls = omega (arith, ints)

difference : (a b : ℤ) → up (a -ℤ b) + (down a + up b) ≡ down (a -ℤ b) + (up a + down b)
difference a b = omega (arith, ints)

-- the point, from where the way starts
module _ (from to : ℤ) (num rest den : ℕ) (sum : den ≡ rest + num) where
  from_up : up from * den ≡ up from * rest + up from * num
  from_up = ap (λ (n : ℕ). up from * n) sum ∙ omega arith

  from_down : down from * den ≡ down from * rest + down from * num
  from_down = ap (λ (n : ℕ). down from * n) sum ∙ omega arith

  point_rises : int_le from to ≡ true → pos rest *ℤ from +ℤ pos num *ℤ to ≡ from *ℤ pos den +ℤ pos (unsigned_abs (to -ℤ from) * num)
  point_rises rises = let whole = ap (λ (n : ℕ). n * num) (apart from to rises) in let u = from_up in let d = from_down in omega (arith, ints)

  point_falls : int_le from to ≡ false → pos rest *ℤ from +ℤ pos num *ℤ to ≡ from *ℤ pos den -ℤ pos (unsigned_abs (to -ℤ from) * num)
  point_falls falls = let whole = ap (λ (n : ℕ). n * num) (apart_back from to falls) in let u = from_up in let d = from_down in omega (arith, ints)

-- the stretches of a way that goes to a coordinate that is no smaller, and of one that goes to a smaller one
abbrev rising : ℕ → ℕ → ℤ → ℤ → Stretch
rising low high from to = record { low = pos (2 * low) -ℤ from; high = pos (2 * high) -ℤ from; whole = unsigned_abs (to -ℤ from) }

abbrev falling : ℕ → ℕ → ℤ → ℤ → Stretch
falling low high from to = record { low = from -ℤ pos (2 * high); high = from -ℤ pos (2 * low); whole = unsigned_abs (to -ℤ from) }

module _ (low high : ℕ) (from to : ℤ) (num den : ℕ) (within : num ≤ den) where
  sum : den ≡ (den - num) + num
  sum = omega arith

  ahead : (face : ℕ) → up (pos (2 * face) -ℤ from) * den + up from * den ≡ down (pos (2 * face) -ℤ from) * den + (2 * face * den + down from * den)
  ahead face = let e = ap (λ (n : ℕ). n * den) (difference (pos (2 * face)) from) in omega arith

  back : (face : ℕ) → up (from -ℤ pos (2 * face)) * den + (down from * den + 2 * face * den) ≡ down (from -ℤ pos (2 * face)) * den + up from * den
  back face = let e = ap (λ (n : ℕ). n * den) (difference from (pos (2 * face))) in omega arith

  pub between_where_within : IsWithin (stretch low high from to) num den → IsBetween low high from to num den
  unfolding stretch
  between_where_within =
      cond_both (int_le from to) (rising low high from to) (falling low high from to) (λ part. IsWithin part num den → IsBetween low high from to num den)
      (λ rises inside.
      let point = point_rises from to num (den - num) den sum rises in
      let begin = ahead low in
      let end = ahead high in
      record { above = rw point (omega (arith, ints)); below = rw point (omega (arith, ints)) })
      (λ falls inside.
      let point = point_falls from to num (den - num) den sum falls in
      let begin = back high in
      let end = back low in
      record { above = rw point (omega (arith, ints)); below = rw point (omega (arith, ints)) })

  pub within_where_between : IsBetween low high from to num den → IsWithin (stretch low high from to) num den
  unfolding stretch
  within_where_between inside =
      cond_both (int_le from to) (rising low high from to) (falling low high from to) (λ part. IsWithin part num den)
      (λ rises.
      let point = point_rises from to num (den - num) den sum rises in
      let above = rw point at inside.above in
      let below = rw point at inside.below in
      let begin = ahead low in
      let end = ahead high in
      record { after = omega (arith, ints); before = omega (arith, ints) })
      (λ falls.
      let point = point_falls from to num (den - num) den sum falls in
      let above = rw point at inside.above in
      let below = rw point at inside.below in
      let begin = back high in
      let end = back low in
      record { after = omega (arith, ints); before = omega (arith, ints) })

-- seen from the other place, it is what is left of the way
pub between_turned : (low high : ℕ) (from to : ℤ) (num den : ℕ) → num ≤ den → IsBetween low high from to num den → IsBetween low high to from (den - num) den
between_turned low high from to num den within inside =
    let rest : den - (den - num) ≡ num = omega arith in
    let same : weighted to from (den - num) den ≡ weighted from to num den = rw rest (+ℤ_comm (pos num *ℤ to) (pos (den - num) *ℤ from)) in
    record { above = rw same inside.above; below = rw same inside.below }
