use Rattle.std.proofs.Common.{◌≡◌, ◌∙◌, true, false, sym, ap}
use Rattle.duties.specs.Duties.{unless}
use Rattle.duties.proofs.Orders.{hands_on}
use Rattle.eulumdat_reader.specs.declared.faults.LdtFault.TheVariants.{Memory}
use Rattle.eulumdat_reader.specs.Rows.{all_lines}
use Rattle.eulumdat_reader.specs.Planes.{is_span}
use Rattle.eulumdat_reader.specs.Layouts.{head_layout}
use Rattle.eulumdat_reader.specs.Eulumdat.{c_angles}
use Rattle.eulumdat_reader.proofs.Whole.{angles_fail, span_decides}
use Rattle.eulumdat_reader.proofs.reader.read_planes.Goals as goal

pub returns-in_err-angles-clause-answer : goal.returns-in_err-angles-clause-answer
returns-in_err-angles-clause-answer c =
    hands_on Memory _ _ _ _ c.from_residual.ensures.1 (rw (c.unread_gap-unread.ensures.value, c.requires) at c.in_err-angles.ensures.answer) (angles_fail (all_lines c.args.source.now) (head_layout c.args.head) _)

pub returns-then-not-is_span-clause-answer : goal.returns-then-not-is_span-clause-answer
unfolding unless
returns-then-not-is_span-clause-answer c = λ _.
    let unread = c.unread_gap-unread.ensures.value in
    let a = c.in_ok-angles.ensures in
    let angles : c.deref.result.now ≡ c_angles (all_lines c.args.source.now) (head_layout c.args.head) = c.deref.ensures.value ∙ (rw (unread, c.requires) at a.value) in
    let spans = ap (is_span c.args.head.sym c.args.head.planes) (sym angles) ∙ (sym c.is_span.ensures ∙ c.if-not-is_span.true) in
    span_decides (all_lines c.args.source.now) (head_layout c.args.head) (rw (unread, c.requires) at a.answer) false spans

pub returns-clause-answer : goal.returns-clause-answer
unfolding unless
returns-clause-answer c =
    let unread = c.unread_gap-unread.ensures.value in
    let a = c.in_ok-angles.ensures in
    let angles : c.deref.result.now ≡ c_angles (all_lines c.args.source.now) (head_layout c.args.head) = c.deref.ensures.value ∙ (rw (unread, c.requires) at a.value) in
    let spans = ap (is_span c.args.head.sym c.args.head.planes) (sym angles) ∙ (sym c.is_span.ensures ∙ c.if-not-is_span.false) in
    span_decides (all_lines c.args.source.now) (head_layout c.args.head) (rw (unread, c.requires) at a.answer) true spans
