use Rattle.std.proofs.Common.{sym, ◌∙◌}
use Rattle.std.proofs.lemmas.Bool.{and_left, and_right}
use Rattle.visibility.specs.Stretches.{comes_between}
use Rattle.visibility.proofs.Words.{doubled, greater, lesser}
use Rattle.visibility.proofs.hidden.comes_between.Goals as goal
use Rattle.visibility.proofs.hidden.comes_between.Goals.{then-from, else-from}

pub returns-else-from-2 : goal.returns-else-from-2
unfolding comes_between
returns-else-from-2 c =
    let low = doubled c.args.low _ c.ranges.low.fits c.from.ensures in
    let most = greater c.args.from c.args.to _ _ c.ranges.from c.ranges.to c.max.ensures.value c.from-2.ensures in
    c.if-from-2.false
    ∙ sym (elim c.if-from.branch [
      | then-from w ↦
          let high = doubled c.args.high _ c.ranges.high.fits w.from-then-from-2.ensures in
          let least = lesser c.args.from c.args.to _ _ c.ranges.from c.ranges.to w.min.ensures.value w.from-then-from.ensures in
          and_left _ _ (and_right _ _ (rw (least, high) at (sym w.value-is ∙ c.if-from-2.false)))
      | else-from w ↦ and_left _ _ (and_left _ _ (rw (low, most) at w.if-from.false))
    ])
