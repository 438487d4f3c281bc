use Rattle.std.proofs.Common.{◌≡◌, ◌∙◌, ◌+◌, None, Some, arith}
use Rattle.duties.proofs.Orders.{hands_on}
use Rattle.photo_web.specs.declared.photometry.PhotoKind.TheVariants.{Ldt}
use Rattle.symmetry.specs.Images.{expansion}
use Rattle.eulumdat_reader.specs.declared.faults.LdtFault.TheVariants.{Memory}
use Rattle.eulumdat_reader.specs.Rows.{all_lines}
use Rattle.eulumdat_reader.specs.Planes.{stored_planes, stored_rows}
use Rattle.eulumdat_reader.specs.Layouts.{head_layout}
use Rattle.eulumdat_reader.specs.Eulumdat.{c_angles, gamma_angles, value_count, values, photometry}
use Rattle.eulumdat_reader.proofs.Whole.{planes_fail, gammas_fail, values_fail, end_decides}
use Rattle.eulumdat_reader.proofs.reader.read_lists.Goals as goal

pub returns-in_err-planes-clause-answer : goal.returns-in_err-planes-clause-answer
returns-in_err-planes-clause-answer c = hands_on Memory _ _ _ _ c.from_residual.ensures.1 c.in_err-planes.ensures.answer (planes_fail (all_lines c.args.source) (head_layout c.args.head) _)

pub returns-in_err-gammas-clause-answer : goal.returns-in_err-gammas-clause-answer
returns-in_err-gammas-clause-answer c =
    let p = c.in_ok-planes.ensures in
    let behind : c.read_planes.new.source.read + 1 ≡ 43 + c.args.head.planes = omega (arith, p.next) in
    hands_on Memory _ _ _ _ c.from_residual-in_err-gammas.ensures.1 (rw (p.same, behind) at c.in_err-gammas.ensures.answer) (gammas_fail (all_lines c.args.source) (head_layout c.args.head) p.answer _)

pub returns-in_err-rows-clause-answer : goal.returns-in_err-rows-clause-answer
returns-in_err-rows-clause-answer c =
    let p = c.in_ok-planes.ensures in
    let g = c.in_ok-gammas.ensures in
    let behind : c.read_planes.new.source.read + 1 ≡ 43 + c.args.head.planes = omega (arith, p.next) in
    hands_on Memory _ _ _ _ c.from_residual-in_err-rows.ensures.1 (rw (g.same ∙ p.same) at c.in_err-rows.ensures.answer)
    (values_fail (all_lines c.args.source) (head_layout c.args.head) p.answer (rw (p.same, behind) at g.answer) _)

pub returns-in_err-read_end-clause-answer : goal.returns-in_err-read_end-clause-answer
returns-in_err-read_end-clause-answer c =
    let p = c.in_ok-planes.ensures in
    let g = c.in_ok-gammas.ensures in
    let r = c.in_ok-rows.ensures in
    let behind : c.read_planes.new.source.read + 1 ≡ 43 + c.args.head.planes = omega (arith, p.next) in
    let end : c.read_stored_rows.new.source.read + 1 ≡ 43 + c.args.head.planes + c.args.head.gammas + value_count (head_layout c.args.head) = omega (arith, r.next) in
    hands_on Memory _ _ _ _ c.from_residual-in_err-read_end.ensures.1 (rw (r.same ∙ (g.same ∙ p.same), end) at c.in_err-read_end.ensures)
    (end_decides (all_lines c.args.source) (head_layout c.args.head) p.answer (rw (p.same, behind) at g.answer) (rw (g.same ∙ p.same) at r.answer) (Some _))

pub returns-clause-answer : goal.returns-clause-answer
returns-clause-answer c =
    let p = c.in_ok-planes.ensures in
    let g = c.in_ok-gammas.ensures in
    let r = c.in_ok-rows.ensures in
    let behind : c.read_planes.new.source.read + 1 ≡ 43 + c.args.head.planes = omega (arith, p.next) in
    let end : c.read_stored_rows.new.source.read + 1 ≡ 43 + c.args.head.planes + c.args.head.gammas + value_count (head_layout c.args.head) = omega (arith, r.next) in
    end_decides (all_lines c.args.source) (head_layout c.args.head) p.answer (rw (p.same, behind) at g.answer) (rw (g.same ∙ p.same) at r.answer) None
    (rw (r.same ∙ (g.same ∙ p.same), end) at c.in_ok-read_end.ensures)

pub returns-clause-value : goal.returns-clause-value
unfolding photometry
returns-clause-value c =
    let p = c.in_ok-planes.ensures in
    let g = c.in_ok-gammas.ensures in
    let behind : c.read_planes.new.source.read + 1 ≡ 43 + c.args.head.planes = omega (arith, p.next) in
    let planes : c.deref.result.now ≡ stored_planes c.args.head.sym c.args.head.planes (c_angles (all_lines c.args.source) (head_layout c.args.head)) = c.deref.ensures.value ∙ p.value in
    let gammas : c.deref-2.result.now ≡ gamma_angles (all_lines c.args.source) (head_layout c.args.head) = c.deref-2.ensures.value ∙ (rw (p.same, behind) at g.value) in
    let rows : c.deref-3.result.now ≡ stored_rows c.args.head.sym c.args.head.planes c.args.head.gammas (values (all_lines c.args.source) (head_layout c.args.head)) =
    c.deref-3.ensures.value ∙ (rw (g.same ∙ p.same) at c.in_ok-rows.ensures.value) in
    λ k. record { kind = Ldt; sym = c.args.head.sym; web = (c.in_ok-web.ensures ∙ (λ i. expansion c.args.head.sym (planes i) (gammas i) (rows i))) k }
