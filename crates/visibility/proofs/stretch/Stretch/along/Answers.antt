use Rattle.std.proofs.Common.{◌≡◌, sym, ◌∙◌, ◌-ℤ◌, true, false}
use Rattle.std.specs.Prelude.{int_le, unsigned_abs}
use Rattle.std.proofs.lemmas.Bool.{cond-true, cond-false}
use Rattle.std.proofs.lemmas.Int.{to_z-of_z}
use Rattle.visibility.specs.Stretches.{stretch}
use Rattle.visibility.proofs.Words.{behind, before, same}
use Rattle.visibility.proofs.stretch.Stretch.along.Goals as goal

pub returns-then-from-to-clause-value : goal.returns-then-from-to-clause-value
unfolding stretch
returns-then-from-to-clause-value c =
    let from = c.args.from in
    let fits = c.ranges.from in
    let fits' = c.ranges.to in
    let start = same from _ c.requires.from c.from-start.ensures in
    let rises : int_le from c.args.to ≡ true = simp to_z-of_z at c.if-from-to.true in
    let apart : c.abs_diff-whole.result ≡ unsigned_abs (c.args.to -ℤ from) = simp to_z-of_z at c.abs_diff-whole.ensures in
    (λ k. record {
      low = behind c.args.low from _ _ c.ranges.low.fits c.requires.from c.from-low.ensures start k;
      high = behind c.args.high from _ _ c.ranges.high.fits c.requires.from c.from-high.ensures start k;
      whole = apart k;
    })
    ∙ sym (cond-true (int_le from c.args.to) _ _ rises)

pub returns-else-from-to-clause-value : goal.returns-else-from-to-clause-value
unfolding stretch
returns-else-from-to-clause-value c =
    let from = c.args.from in
    let fits = c.ranges.from in
    let fits' = c.ranges.to in
    let start = same from _ c.requires.from c.from-start.ensures in
    let falls : int_le from c.args.to ≡ false = simp to_z-of_z at c.if-from-to.false in
    let apart : c.abs_diff-whole.result ≡ unsigned_abs (c.args.to -ℤ from) = simp to_z-of_z at c.abs_diff-whole.ensures in
    (λ k. record {
      low = before c.args.high from _ _ c.ranges.high.fits c.requires.from c.from-high.ensures start k;
      high = before c.args.low from _ _ c.ranges.low.fits c.requires.from c.from-low.ensures start k;
      whole = apart k;
    })
    ∙ sym (cond-false (int_le from c.args.to) _ _ falls)
