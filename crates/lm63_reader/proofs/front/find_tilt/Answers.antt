use Rattle.std.proofs.Common.{◌+◌, ◌∙◌, drop, sym, ap}
use Rattle.std.specs.Prelude.{find}
use Rattle.lux_lines.specs.Lines.{lines}
use Rattle.lux_lines.specs.Pieces.{line_piece}
use Rattle.lm63_reader.specs.Front.{is_tilt}
use Rattle.laws.proofs.Left.{left_is, nothing_left}
use Rattle.lm63_reader.proofs.Walking.{find_here, find_later}
use Rattle.lm63_reader.proofs.front.find_tilt.Goals as goal

pub returns-then-is_tilt : goal.returns-then-is_tilt
returns-then-is_tilt c =
    let here = rw c.loop-line.invariant.text at c.in-Some.ensures.line in
    let left = left_is (lines c.args.source.text) c.loop-line.source.read (line_piece c.in-Some.line) (sym here) in
    sym (find_here is_tilt (line_piece c.in-Some.line) (drop (c.loop-line.source.read + 1) (lines c.args.source.text)) (sym c.is_tilt.ensures ∙ c.if-is_tilt.true))
    ∙ (ap (find is_tilt) (sym left.0) ∙ c.loop-line.invariant.found)

pub loop-line-preserved : goal.loop-line-preserved
loop-line-preserved c =
    let here = rw c.loop-line.invariant.text at c.in-Some.ensures.line in
    let left = left_is (lines c.args.source.text) c.loop-line.source.read (line_piece c.in-Some.line) (sym here) in
    record {
      text = c.in-Some.ensures.same ∙ c.loop-line.invariant.text;
      found = rw c.in-Some.ensures.next (sym (find_later is_tilt (line_piece c.in-Some.line) (drop (c.loop-line.source.read + 1) (lines c.args.source.text)) (sym c.is_tilt.ensures ∙ c.if-is_tilt.false))
          ∙ (ap (find is_tilt) (sym left.0) ∙ c.loop-line.invariant.found));
    }

pub returns : goal.returns
returns c =
    let none = rw c.loop-line.invariant.text at c.in_default.ensures.line in
    ap (find is_tilt) (sym (nothing_left (lines c.args.source.text) c.loop-line.source.read (sym none))) ∙ c.loop-line.invariant.found
