use Rattle.std.proofs.Common.{◌≡◌, ◌∙◌}
use Rattle.duties.specs.Duties.{first}
use Rattle.duties.proofs.Orders.{hands_on, last_decides, this_met, this_fails}
use Rattle.eulumdat_reader.specs.declared.faults.LdtFault.TheVariants.{Memory}
use Rattle.eulumdat_reader.specs.Rows.{all_lines}
use Rattle.eulumdat_reader.specs.Layouts.{head_layout}
use Rattle.eulumdat_reader.specs.Eulumdat.{layout, list_duties, row_duties}
use Rattle.eulumdat_reader.proofs.Whole.{layout_is}
use Rattle.eulumdat_reader.proofs.reader.read_rows.Goals as goal

pub returns-in_err-head-clause-answer : goal.returns-in_err-head-clause-answer
unfolding row_duties
returns-in_err-head-clause-answer c = hands_on Memory _ _ _ _ c.from_residual.ensures.1 c.in_err-head.ensures.answer (λ h. this_fails _ _ _ h)

pub returns-clause-answer : goal.returns-clause-answer
unfolding row_duties
returns-clause-answer c =
    let a = c.in_ok-head.ensures in
    let is : head_layout c.in_ok-head.head ≡ layout (all_lines c.args.source) = layout_is (all_lines c.args.source) (head_layout c.in_ok-head.head) a.sym a.planes a.gammas a.scale in
    rw (this_met _ _ a.answer ∙ last_decides (first (list_duties (all_lines c.args.source) (layout (all_lines c.args.source))))) (rw (a.same, is) at c.read_lists.ensures.answer)

pub returns-clause-value : goal.returns-clause-value
returns-clause-value c =
    let a = c.in_ok-head.ensures in
    let is : head_layout c.in_ok-head.head ≡ layout (all_lines c.args.source) = layout_is (all_lines c.args.source) (head_layout c.in_ok-head.head) a.sym a.planes a.gammas a.scale in
    rw (a.same, is) at c.read_lists.ensures.value
