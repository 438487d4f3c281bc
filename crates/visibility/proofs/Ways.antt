-- Where the way from one place to another lies within a stretch, and within several at once.
use Rattle.std.proofs.Common.{◌≡◌, ℕ, suc, ◌+◌, ◌*◌, ◌<◌, ◌≤◌, ℤ, pos, negsuc, ◌*ℤ◌, ◌<ℤ◌, Bool, true, cond, ◌&&◌, ◌||◌, inl, inr, sym, eq-eqb, eqb-true, arith}
use Rattle.std.specs.Prelude.{nat_lt, ◌==◌, int_lt, int_le}
use Rattle.std.specs.Int.{int_max, int_min}
use Rattle.std.proofs.lemmas.Int.{ints, clamps}
use borrow.Author.Differences.{up, down, lt_out}
use Rattle.std.proofs.lemmas.Nat.{mul-le}
use Rattle.std.proofs.lemmas.Bool.{cond_both, cases_lt, ltb-true, ltb-false, lt-ltb, and_parts, and_from, or_cases, or_left, or_right}
use Rattle.std.proofs.Math.Nat.{lt_of_mul-lt-mul_right, mul-lt-mul_of_pos_right, mul-le-mul_left}
use Rattle.visibility.specs.declared.stretch.Stretch.{Stretch}
use Rattle.visibility.specs.Stretches.{begins_before_end, comes_between, meets, stretch}
use Rattle.visibility.proofs.Fractions.{Fraction, Below, IsIn, IsProper, IsSpan, Overlap, Span}

-- num / den of the way lies strictly within a stretch
pub record IsWithin (part : Stretch) (num den : ℕ) : Type 0 where
  pub after : (part.low *ℤ pos den) <ℤ pos (part.whole * num)
  pub before : pos (part.whole * num) <ℤ (part.high *ℤ pos den)

-- some of the way does
pub record IsReached (part : Stretch) : Type 0 where
  pub begins : part.low <ℤ pos part.whole
  pub ends : pos 0 <ℤ part.high
  pub some : part.low <ℤ part.high

-- the way comes to each of two stretches before it has left the other
pub record AreCrossed (part other : Stretch) : Type 0 where
  pub first : (part.low *ℤ pos other.whole) <ℤ (other.high *ℤ pos part.whole)
  pub second : (other.low *ℤ pos part.whole) <ℤ (part.high *ℤ pos other.whole)

-- ---- the tests

module _ (low high : ℕ) (from to : ℤ) where
  abbrev enters : Bool
  enters = int_lt (pos (2 * low)) (int_max from to)

  abbrev leaves : Bool
  leaves = int_lt (int_min from to) (pos (2 * high))

  pub reached_where_between : comes_between low high from to ≡ true → IsReached (stretch low high from to)
  unfolding comes_between stretch
  reached_where_between comes =
      let both = and_parts (enters && leaves) (nat_lt low high) comes in
      let each = and_parts enters leaves both.0 in
      let some = ltb-true low high both.1 in
      cond_both (int_le from to) _ _ IsReached
      (λ rises. record { begins = omega (arith, ints, clamps, each.0, each.1); ends = omega (arith, ints, clamps, each.0, each.1); some = omega (arith, ints) })
      (λ falls. record { begins = omega (arith, ints, clamps, each.0, each.1); ends = omega (arith, ints, clamps, each.0, each.1); some = omega (arith, ints) })

  from_parts : true ≡ enters → true ≡ leaves → low < high → comes_between low high from to ≡ true
  unfolding comes_between
  from_parts first last some = and_from (enters && leaves) (nat_lt low high) (and_from enters leaves (sym first) (sym last)) (lt-ltb low high some)

  pub between_where_reached : IsReached (stretch low high from to) → comes_between low high from to ≡ true
  unfolding stretch
  between_where_reached =
      cond_both (int_le from to) _ _ (λ part. IsReached part → comes_between low high from to ≡ true)
      (λ rises reached. from_parts (omega (arith, ints, clamps)) (omega (arith, ints, clamps)) (omega (arith, ints)))
      (λ falls reached. from_parts (omega (arith, ints, clamps)) (omega (arith, ints, clamps)) (omega (arith, ints)))

module _ (part other : Stretch) where
  abbrev still : Bool
  still = part.whole == 0 || other.whole == 0

  abbrev crossed : Bool
  crossed = begins_before_end part other && begins_before_end other part

  pub crossed_where_met : meets part other ≡ true → 0 < part.whole → 0 < other.whole → AreCrossed part other
  unfolding meets
  crossed_where_met met some some' =
      elim (or_cases still crossed met) [
        | inl none ↦ elim (or_cases (part.whole == 0) (other.whole == 0) none) [
          | inl first ↦ let e = eqb-true part.whole 0 first in absurd (omega arith)
          | inr second ↦ let e = eqb-true other.whole 0 second in absurd (omega arith)
        ]
        | inr both ↦
            let each = and_parts (begins_before_end part other) (begins_before_end other part) both in
            record { first = omega (arith, ints, each.0); second = omega (arith, ints, each.1) }
      ]

  pub met_where_crossed : (0 < part.whole → 0 < other.whole → AreCrossed part other) → meets part other ≡ true
  unfolding meets
  met_where_crossed crosses =
      elim (cases_lt 0 part.whole) [
        | inr none ↦ or_left still crossed (or_left (part.whole == 0) (other.whole == 0) (eq-eqb part.whole 0 (omega arith)))
        | inl some ↦ elim (cases_lt 0 other.whole) [
          | inr none ↦ or_left still crossed (or_right (part.whole == 0) (other.whole == 0) (eq-eqb other.whole 0 (omega arith)))
          | inl some' ↦
              let both = crosses some some' in
              let first : true ≡ begins_before_end part other = omega (arith, ints, both.first) in
              let second : true ≡ begins_before_end other part = omega (arith, ints, both.second) in
              or_right still crossed (and_from (begins_before_end part other) (begins_before_end other part) (sym first) (sym second))
        ]
      ]

-- ---- the stretch as a span of fractions of the way

-- the way comes to a stretch after this fraction, and leaves it at that one; no fraction lies before the start or after the end of the way
abbrev first : ℤ → ℕ → Fraction
first (pos low) whole = record { top = low; bottom = whole }
first (negsuc low) whole = record { top = 0; bottom = 1 }

abbrev last : ℤ → ℕ → Fraction
last (pos high) whole = cond (nat_lt whole high) (record { top = 1; bottom = 1 }) (record { top = high; bottom = whole })
last (negsuc high) whole = record { top = 0; bottom = 1 }

abbrev pub span_of : Stretch → Span
span_of part = record { from = first part.low part.whole; to = last part.high part.whole }

first_positive : (low : ℤ) (whole : ℕ) → low <ℤ pos whole → 0 < (first low whole).bottom
first_positive (pos low) whole begins = omega (arith, ints)
first_positive (negsuc low) whole begins = omega arith

last_proper : (high : ℤ) (whole : ℕ) → pos 0 <ℤ high → IsProper (last high whole)
last_proper (pos high) whole ends =
    cond_both (nat_lt whole high) (record { top = 1; bottom = 1 }) (record { top = high; bottom = whole }) IsProper
    (λ t. record { positive = omega arith; within = omega arith })
    (λ f. let le = ltb-false whole high f in record { positive = omega (arith, ints); within = le })
last_proper (negsuc high) whole ends = absurd (omega (arith, ints))

first-below_last : (low high : ℤ) (v w : ℕ) → low <ℤ pos v → pos 0 <ℤ high → (0 < v → 0 < w → (low *ℤ pos w) <ℤ (high *ℤ pos v)) → Below (first low v) (last high w)
first-below_last (pos low) (pos high) v w begins ends crosses =
    cond_both (nat_lt w high) (record { top = 1; bottom = 1 }) (record { top = high; bottom = w }) (Below (record { top = low; bottom = v }))
    (λ t. record { less = omega (arith, ints) })
    (λ f. let le = ltb-false w high f in let both = crosses (omega (arith, ints)) (omega (arith, ints)) in record { less = omega (arith, ints, both) })
first-below_last (negsuc low) (pos high) v w begins ends crosses =
    cond_both (nat_lt w high) (record { top = 1; bottom = 1 }) (record { top = high; bottom = w }) (Below (record { top = 0; bottom = 1 }))
    (λ t. record { less = omega arith })
    (λ f. record { less = omega (arith, ints) })
first-below_last low (negsuc high) v w begins ends crosses = absurd (omega (arith, ints))

pub is_span : (part : Stretch) → IsReached part → IsSpan (span_of part)
is_span part reached = record {
  from = first_positive part.low part.whole reached.begins;
  to = last_proper part.high part.whole reached.ends;
  some = first-below_last part.low part.high part.whole part.whole reached.begins reached.ends
      (λ some some'. let m = mul-lt-mul_of_pos_right (lt_out part.low part.high reached.some) some in omega (arith, ints));
}

pub overlaps : (part other : Stretch) → IsReached part → IsReached other → meets part other ≡ true → Overlap (span_of part) (span_of other)
overlaps part other reached reached' met = record {
  first = first-below_last part.low other.high part.whole other.whole reached.begins reached'.ends (λ some some'. (crossed_where_met part other met some some').first);
  second = first-below_last other.low part.high other.whole part.whole reached'.begins reached.ends (λ some some'. (crossed_where_met part other met some' some).second);
}

after_first : (low : ℤ) (whole : ℕ) (p : Fraction) → IsProper p → Below (first low whole) p → (low *ℤ pos p.bottom) <ℤ pos (whole * p.top)
after_first (pos low) whole p proper after = let less = after.less in omega (arith, ints)
after_first (negsuc low) whole p proper after = let some = proper.positive in let m = mul-le 1 1 (suc low) p.bottom (omega arith) some in omega (arith, ints)

before_last : (high : ℤ) (whole : ℕ) (p : Fraction) → IsProper p → pos 0 <ℤ high → Below p (last high whole) → pos (whole * p.top) <ℤ (high *ℤ pos p.bottom)
before_last (pos high) whole p proper ends before =
    cond_both (nat_lt whole high) (record { top = 1; bottom = 1 }) (record { top = high; bottom = whole }) (λ f. Below p f → pos (whole * p.top) <ℤ (pos high *ℤ pos p.bottom))
    (λ t _. let a = mul-le-mul_left whole proper.within in let b = mul-lt-mul_of_pos_right (ltb-true whole high t) proper.positive in omega (arith, ints))
    (λ f inside. let less = inside.less in omega (arith, ints))
    before
before_last (negsuc high) whole p proper ends before = absurd (omega (arith, ints))

pub is_within : (part : Stretch) (p : Fraction) → IsReached part → IsProper p → IsIn (span_of part) p → IsWithin part p.top p.bottom
is_within part p reached proper inside = record {
  after = after_first part.low part.whole p proper inside.after;
  before = before_last part.high part.whole p proper reached.ends inside.before;
}

-- ---- what a fraction of the way within two stretches says of them

pub reached_within : (part : Stretch) (num den : ℕ) → 0 < den → num ≤ den → IsWithin part num den → IsReached part
reached_within part num den positive within inside =
    let short = mul-le-mul_left part.whole within in
    let after = lt_out _ _ inside.after in
    let before = lt_out _ _ inside.before in
    let begins = lt_of_mul-lt-mul_right den {m = up part.low} {n = part.whole + down part.low} (omega (arith, ints)) in
    let ends = lt_of_mul-lt-mul_right den {m = down part.high} {n = up part.high} (omega (arith, ints)) in
    let some = lt_of_mul-lt-mul_right den {m = up part.low + down part.high} {n = up part.high + down part.low} (omega (arith, ints)) in
    record { begins = omega (arith, ints); ends = omega (arith, ints); some = omega (arith, ints) }

begins_before : (part other : Stretch) (num den : ℕ) → 0 < den → IsWithin part num den → IsWithin other num den → 0 < part.whole → 0 < other.whole
    → (part.low *ℤ pos other.whole) <ℤ (other.high *ℤ pos part.whole)
begins_before part other num den positive inside inside' some some' =
    let after : up part.low * den < part.whole * num + down part.low * den = omega (arith, ints, inside.after) in
    let before : other.whole * num + down other.high * den < up other.high * den = omega (arith, ints, inside'.before) in
    let one = mul-lt-mul_of_pos_right after some' in
    let two = mul-lt-mul_of_pos_right before some in
    let less = lt_of_mul-lt-mul_right den {m = up part.low * other.whole + down other.high * part.whole} {n = up other.high * part.whole + down part.low * other.whole} (omega (arith, ints)) in
    omega (arith, ints)

pub crossed_within : (part other : Stretch) (num den : ℕ) → 0 < den → IsWithin part num den → IsWithin other num den → 0 < part.whole → 0 < other.whole → AreCrossed part other
crossed_within part other num den positive inside inside' some some' = record {
  first = begins_before part other num den positive inside inside' some some';
  second = begins_before other part num den positive inside' inside some' some;
}
