use Rattle.std.proofs.Common.{◌≡◌, ℕ, ◌*◌, ◌≤◌, ap, ◌∙◌, arith}
use Rattle.enclosure.specs.declared.fraction.Fraction.{Fraction}
use Rattle.enclosure.specs.Shapes.{part_of}
use Rattle.enclosure.proofs.Fractions.{div_ceil-greater, div_ceil-greater_first}
use Rattle.enclosure.proofs.fraction.Fraction.greater.Goals as goal

pub returns-then-left-right-clause-greatest : goal.returns-then-left-right-clause-greatest
returns-then-left-right-clause-greatest c =
    let cross : c.args.self.parts * c.args.other.whole ≤ c.args.other.parts * c.args.self.whole = crossed _ _ _ _ _ _ _ _ c.from.ensures c.from-2.ensures c.from-3.ensures c.from-4.ensures (omega arith) in
    λ amount. ap (λ (f : Fraction). part_of f amount) c.raised.ensures ∙ div_ceil-greater c.args.self.parts c.args.self.whole c.args.other.parts c.args.other.whole amount c.requires.one c.requires.two cross
  where
    crossed : (a m b k a' m' b' k' : ℕ) → a' ≡ a → m' ≡ m → b' ≡ b → k' ≡ k → a' * m' ≤ b' * k' → a * m ≤ b * k
    crossed a m b k a' m' b' k' p q r t le = rw (← p, ← q, ← r, ← t) le

pub returns-else-left-right-clause-greatest : goal.returns-else-left-right-clause-greatest
returns-else-left-right-clause-greatest c =
    let cross : c.args.other.parts * c.args.self.whole ≤ c.args.self.parts * c.args.other.whole = crossed _ _ _ _ _ _ _ _ c.from-3.ensures c.from-4.ensures c.from.ensures c.from-2.ensures (omega arith) in
    λ amount. div_ceil-greater_first c.args.self.parts c.args.self.whole c.args.other.parts c.args.other.whole amount c.requires.one c.requires.two cross
  where
    crossed : (a m b k a' m' b' k' : ℕ) → a' ≡ a → m' ≡ m → b' ≡ b → k' ≡ k → a' * m' ≤ b' * k' → a * m ≤ b * k
    crossed a m b k a' m' b' k' p q r t le = rw (← p, ← q, ← r, ← t) le
