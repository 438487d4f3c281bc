use Rattle.std.proofs.Common.{sym, ◌∙◌, arith}
use Rattle.std.proofs.lemmas.Option.{slice_get-get_or}
use Rattle.boxes.proofs.Tests.{box_refused, box_passed, none_behind}
use Rattle.boxes.proofs.checks.boxes_fault.Goals as goal

pub returns-in-Some : goal.returns-in-Some
returns-in-Some c =
    sym (c.loop-at.invariant ∙ box_refused c.args.room c.args.boxes.now c.loop-at.at _ (slice_get-get_or c.args.boxes.now c.loop-at.at _ c.loop-at-test.true) c.in-Some.fault (sym c.in-Some.ensures))

pub loop-at-preserved : goal.loop-at-preserved
loop-at-preserved c =
    c.loop-at.invariant ∙ box_passed c.args.room c.args.boxes.now c.loop-at.at _ (slice_get-get_or c.args.boxes.now c.loop-at.at _ c.loop-at-test.true) (sym c.in_default.ensures)

pub returns : goal.returns
returns c = sym (c.loop-at.invariant ∙ none_behind c.args.room c.args.boxes.now c.loop-at.at (omega arith))
