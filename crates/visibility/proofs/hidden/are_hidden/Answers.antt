use Rattle.std.proofs.Common.{rules, tests}
use Rattle.std.proofs.lemmas.Iterator.{YieldsList-from_slice}
use Rattle.std.proofs.lemmas.Iterator.Search.{any_from_yields_List}
use Rattle.visibility.specs.Stretches.{hidden, hides}
use Rattle.visibility.proofs.Hiding.{hidden_decides}
use Rattle.visibility.proofs.hidden.are_hidden.Goals as goal

pub returns-clause-hidden : goal.returns-clause-hidden
unfolding hidden
returns-clause-hidden c =
    let boxes = c.args.boxes.now in
    let value = any_from_yields_List (λ box. hides box c.args.from c.args.to) _ _ c.any.result c.any.ensures.ran (YieldsList-from_slice boxes cc) (λ x b q k. search (rules, tests)) in
    rw value (hidden_decides boxes c.args.from c.args.to)
