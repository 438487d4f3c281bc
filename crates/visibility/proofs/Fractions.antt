-- Spans between fractions that are not negative: where each two of three have a part in common, all three have a fraction in common.
use Rattle.std.proofs.Common.{ℕ, ◌+◌, ◌*◌, ◌<◌, ◌≤◌, cond, arith}
use Rattle.std.specs.Prelude.{nat_lt}
use Rattle.std.proofs.lemmas.Bool.{cond_both, ltb-true, ltb-false}
use Rattle.std.proofs.lemmas.Nat.{mul-le}
use Rattle.std.proofs.Math.Nat.{lt_of_mul-lt-mul_right, mul-lt-mul_of_pos_right, mul-le-mul_right}

pub record Fraction : Type 0 where
  pub top : ℕ
  pub bottom : ℕ

-- one that is no greater than 1
pub record IsProper (p : Fraction) : Type 0 where
  pub positive : 0 < p.bottom
  pub within : p.top ≤ p.bottom

pub record Below (p q : Fraction) : Type 0 where
  pub less : p.top * q.bottom < q.top * p.bottom

-- what lies strictly between two fractions
pub record Span : Type 0 where
  pub from : Fraction
  pub to : Fraction

pub record IsIn (s : Span) (p : Fraction) : Type 0 where
  pub after : Below s.from p
  pub before : Below p s.to

pub record IsSpan (s : Span) : Type 0 where
  pub from : 0 < s.from.bottom
  pub to : IsProper s.to
  pub some : Below s.from s.to

pub record Overlap (s t : Span) : Type 0 where
  pub first : Below s.from t.to
  pub second : Below t.from s.to

at_most-below : (p q r : Fraction) → 0 < p.bottom → p.top * q.bottom ≤ q.top * p.bottom → Below q r → Below p r
at_most-below p q r positive le less =
    let a = mul-le-mul_right r.bottom le in
    let b = mul-lt-mul_of_pos_right less.less positive in
    record { less = lt_of_mul-lt-mul_right q.bottom (omega arith) }

below-at_most : (p q r : Fraction) → 0 < r.bottom → Below p q → q.top * r.bottom ≤ r.top * q.bottom → Below p r
below-at_most p q r positive less le =
    let a = mul-lt-mul_of_pos_right less.less positive in
    let b = mul-le-mul_right p.bottom le in
    record { less = lt_of_mul-lt-mul_right q.bottom (omega arith) }

-- the greater and the lesser of two fractions
abbrev greater : Fraction → Fraction → Fraction
greater p q = cond (nat_lt (p.top * q.bottom) (q.top * p.bottom)) q p

abbrev lesser : Fraction → Fraction → Fraction
lesser p q = cond (nat_lt (p.top * q.bottom) (q.top * p.bottom)) p q

either_greater : (P : Fraction → Type 0) (p q : Fraction) → P p → P q → P (greater p q)
either_greater P p q hp hq = cond_both (nat_lt (p.top * q.bottom) (q.top * p.bottom)) q p P (λ _. hq) (λ _. hp)

either_lesser : (P : Fraction → Type 0) (p q : Fraction) → P p → P q → P (lesser p q)
either_lesser P p q hp hq = cond_both (nat_lt (p.top * q.bottom) (q.top * p.bottom)) p q P (λ _. hp) (λ _. hq)

-- what is above the greater is above both, and what is below the lesser below both
greater-below : (p q r : Fraction) → 0 < p.bottom → 0 < q.bottom → Below (greater p q) r → Below p r × Below q r
greater-below p q r hp hq =
    cond_both (nat_lt (p.top * q.bottom) (q.top * p.bottom)) q p (λ m. Below m r → Below p r × Below q r)
    (λ t less. let lt = ltb-true _ _ t in (at_most-below p q r hp (omega arith) less, less))
    (λ f less. let le = ltb-false _ _ f in (less, at_most-below q p r hq (omega arith) less))

below-lesser : (p q r : Fraction) → 0 < p.bottom → 0 < q.bottom → Below r (lesser p q) → Below r p × Below r q
below-lesser p q r hp hq =
    cond_both (nat_lt (p.top * q.bottom) (q.top * p.bottom)) p q (λ m. Below r m → Below r p × Below r q)
    (λ t less. let lt = ltb-true _ _ t in (less, below-at_most r p q hq less (omega arith)))
    (λ f less. let le = ltb-false _ _ f in (below-at_most r q p hp less (omega arith), less))

-- what two spans have in common
abbrev common : Span → Span → Span
common s t = record { from = greater s.from t.from; to = lesser s.to t.to }

common_some : (s t : Span) → IsSpan s → IsSpan t → Overlap s t → IsSpan (common s t)
common_some s t hs ht both = record {
  from = either_greater (λ p. 0 < p.bottom) s.from t.from hs.from ht.from;
  to = either_lesser IsProper s.to t.to hs.to ht.to;
  some = either_greater (λ p. Below p (lesser s.to t.to)) s.from t.from
      (either_lesser (λ q. Below s.from q) s.to t.to hs.some both.first)
      (either_lesser (λ q. Below t.from q) s.to t.to both.second ht.some);
}

common_overlaps : (s t u : Span) → Overlap s u → Overlap t u → Overlap (common s t) u
common_overlaps s t u hs ht = record {
  first = either_greater (λ p. Below p u.to) s.from t.from hs.first ht.first;
  second = either_lesser (λ q. Below u.from q) s.to t.to hs.second ht.second;
}

common_within : (s t : Span) (p : Fraction) → IsSpan s → IsSpan t → IsIn (common s t) p → IsIn s p × IsIn t p
common_within s t p hs ht inside =
    let after = greater-below s.from t.from p hs.from ht.from inside.after in
    let before = below-lesser s.to t.to p hs.to.positive ht.to.positive inside.before in
    (record { after = after.0; before = before.0 }, record { after = after.1; before = before.1 })

-- the middle of a span
abbrev middle : Span → Fraction
middle s = record { top = s.from.top * s.to.bottom + s.to.top * s.from.bottom; bottom = 2 * s.from.bottom * s.to.bottom }

middle_within : (s : Span) → IsSpan s → IsIn s (middle s)
middle_within s h =
    let a = mul-lt-mul_of_pos_right h.some.less h.from in
    let b = mul-lt-mul_of_pos_right h.some.less h.to.positive in
    record { after = record { less = omega arith }; before = record { less = omega arith } }

middle_proper : (s : Span) → IsSpan s → IsProper (middle s)
middle_proper s h =
    let less = h.some.less in
    let le = mul-le-mul_right s.from.bottom h.to.within in
    let some = mul-le 1 1 s.from.bottom s.to.bottom h.from h.to.positive in
    record { positive = omega arith; within = omega arith }

-- a fraction within three spans
pub record IsShared (s t u : Span) (p : Fraction) : Type 0 where
  pub proper : IsProper p
  pub first : IsIn s p
  pub second : IsIn t p
  pub third : IsIn u p

pub shared : (s t u : Span) → IsSpan s → IsSpan t → IsSpan u → Overlap s t → Overlap s u → Overlap t u → (p : Fraction) × IsShared s t u p
shared s t u hs ht hu st su tu =
    let two = common s t in
    let is_two = common_some s t hs ht st in
    let three = common two u in
    let is_three = common_some two u is_two hu (common_overlaps s t u su tu) in
    let last = common_within two u (middle three) is_two hu (middle_within three is_three) in
    let front = common_within s t (middle three) hs ht last.0 in
    (middle three, record { proper = middle_proper three is_three; first = front.0; second = front.1; third = last.1 })
