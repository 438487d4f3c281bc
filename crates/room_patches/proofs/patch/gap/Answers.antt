use Rattle.std.proofs.Common.{◌∙◌, arith}
use Rattle.room_patches.proofs.Distances.{gap-by_words, gap-le}
use Rattle.room_patches.proofs.patch.gap.Goals as goal

pub returns-clause-value : goal.returns-clause-value
returns-clause-value c = c.from.ensures ∙ gap-by_words c.args.from c.args.to c.args.axis _ c.requires.from c.requires.to c.requires.axis c.abs_diff.ensures

pub returns-clause-most : goal.returns-clause-most
returns-clause-most c =
    let is = c.from.ensures ∙ gap-by_words c.args.from c.args.to c.args.axis _ c.requires.from c.requires.to c.requires.axis c.abs_diff.ensures in
    let most = gap-le c.args.from c.args.to c.args.axis c.requires.from c.requires.to c.requires.axis in
    omega arith
