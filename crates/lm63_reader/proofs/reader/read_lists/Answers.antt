use Rattle.std.proofs.Common.{◌≡◌, ◌∙◌, ◌+◌, ◌*◌, Option, Some, None, sym, ap, arith}
use Rattle.std.specs.Prelude.{is_some, unwrap_or}
use Rattle.duties.proofs.Orders.{hands_on, this_met, this_fails, none_left, unless_holds, unless_fails}
use Rattle.lux_lines.specs.Walks.{all_tokens}
use Rattle.photo_web.specs.declared.photometry.SymKind.{SymKind}
use Rattle.photo_web.specs.declared.photometry.SymKind.TheVariants.{Axis}
use Rattle.photo_web.specs.declared.photometry.PhotoKind.TheVariants.{Lm63}
use Rattle.symmetry.specs.Images.{expansion}
use Rattle.lm63_reader.specs.declared.faults.LmFault.TheVariants.{Memory}
use Rattle.lm63_reader.specs.Angles.{angles, span_symmetry}
use Rattle.lm63_reader.specs.Intensities.{intensities}
use Rattle.lm63_reader.specs.Lm63.{list_duties, photometry}
use Rattle.lm63_reader.proofs.reader.read_lists.Goals as goal

pub returns-in_err-gammas-clause-answer : goal.returns-in_err-gammas-clause-answer
unfolding list_duties
returns-in_err-gammas-clause-answer c = hands_on Memory _ _ _ _ c.from_residual.ensures.1 c.in_err-gammas.ensures.answer (λ h. this_fails _ _ _ h)

pub returns-in_err-planes-clause-answer : goal.returns-in_err-planes-clause-answer
unfolding list_duties
returns-in_err-planes-clause-answer c =
    let a = c.in_ok-gammas.ensures in
    hands_on Memory _ _ _ _ c.from_residual-in_err-planes.ensures.1 (rw (a.same, a.next) at c.in_err-planes.ensures.answer)
    (λ h. this_met _ _ a.answer ∙ this_fails _ _ _ h)

pub returns-in_default-clause-answer : goal.returns-in_default-clause-answer
unfolding list_duties
returns-in_default-clause-answer c = λ _.
    let a = c.in_ok-gammas.ensures in
    let b = c.in_ok-planes.ensures in
    let planes : c.deref.result.now ≡ angles (all_tokens c.args.source) (c.args.source.read + c.args.head.verticals) c.args.head.horizontals = c.deref.ensures.value ∙ (rw (a.same, a.next) at b.value) in
    let span : span_symmetry (angles (all_tokens c.args.source) (c.args.source.read + c.args.head.verticals) c.args.head.horizontals) ≡ None = ap span_symmetry (sym planes) ∙ sym c.in_default.ensures.value in
    this_met _ _ a.answer ∙ (this_met _ _ (rw (a.same, a.next) at b.answer) ∙ this_fails _ _ _ (unless_fails _ _ (ap is_some span)))

pub returns-in_err-rows-clause-answer : goal.returns-in_err-rows-clause-answer
unfolding list_duties
returns-in_err-rows-clause-answer c =
    let a = c.in_ok-gammas.ensures in
    let b = c.in_ok-planes.ensures in
    let planes : c.deref.result.now ≡ angles (all_tokens c.args.source) (c.args.source.read + c.args.head.verticals) c.args.head.horizontals = c.deref.ensures.value ∙ (rw (a.same, a.next) at b.value) in
    let span : span_symmetry (angles (all_tokens c.args.source) (c.args.source.read + c.args.head.verticals) c.args.head.horizontals) ≡ Some c.in-Some.sym = ap span_symmetry (sym planes) ∙ sym c.in-Some.ensures.value in
    let place : c.read_angles-2.new.source.read ≡ c.args.source.read + c.args.head.verticals + c.args.head.horizontals = omega (arith, a.next, b.next) in
    hands_on Memory _ _ _ _ c.from_residual-in_err-rows.ensures.1 (rw (b.same ∙ a.same, place) at c.in_err-rows.ensures.answer)
    (λ h. this_met _ _ a.answer ∙ (this_met _ _ (rw (a.same, a.next) at b.answer) ∙ (this_met _ _ (unless_holds _ _ (ap is_some span)) ∙ this_fails _ _ _ h)))

pub returns-in_err-read_end-clause-answer : goal.returns-in_err-read_end-clause-answer
unfolding list_duties
returns-in_err-read_end-clause-answer c =
    let a = c.in_ok-gammas.ensures in
    let b = c.in_ok-planes.ensures in
    let v = c.in_ok-rows.ensures in
    let planes : c.deref.result.now ≡ angles (all_tokens c.args.source) (c.args.source.read + c.args.head.verticals) c.args.head.horizontals = c.deref.ensures.value ∙ (rw (a.same, a.next) at b.value) in
    let span : span_symmetry (angles (all_tokens c.args.source) (c.args.source.read + c.args.head.verticals) c.args.head.horizontals) ≡ Some c.in-Some.sym = ap span_symmetry (sym planes) ∙ sym c.in-Some.ensures.value in
    let place : c.read_angles-2.new.source.read ≡ c.args.source.read + c.args.head.verticals + c.args.head.horizontals = omega (arith, a.next, b.next) in
    let end : c.read_values.new.source.read ≡ c.args.source.read + c.args.head.verticals + c.args.head.horizontals + c.args.head.horizontals * c.args.head.verticals = omega (arith, place, v.next) in
    hands_on Memory _ _ _ _ c.from_residual-in_err-read_end.ensures.1 (rw (v.same ∙ (b.same ∙ a.same), end) at c.in_err-read_end.ensures)
    (λ h. this_met _ _ a.answer ∙ (this_met _ _ (rw (a.same, a.next) at b.answer) ∙ (this_met _ _ (unless_holds _ _ (ap is_some span))
    ∙ (this_met _ _ (rw (b.same ∙ a.same, place) at v.answer) ∙ this_fails _ _ _ h))))

pub returns-clause-answer : goal.returns-clause-answer
unfolding list_duties
returns-clause-answer c =
    let a = c.in_ok-gammas.ensures in
    let b = c.in_ok-planes.ensures in
    let v = c.in_ok-rows.ensures in
    let planes : c.deref.result.now ≡ angles (all_tokens c.args.source) (c.args.source.read + c.args.head.verticals) c.args.head.horizontals = c.deref.ensures.value ∙ (rw (a.same, a.next) at b.value) in
    let span : span_symmetry (angles (all_tokens c.args.source) (c.args.source.read + c.args.head.verticals) c.args.head.horizontals) ≡ Some c.in-Some.sym = ap span_symmetry (sym planes) ∙ sym c.in-Some.ensures.value in
    let place : c.read_angles-2.new.source.read ≡ c.args.source.read + c.args.head.verticals + c.args.head.horizontals = omega (arith, a.next, b.next) in
    let end : c.read_values.new.source.read ≡ c.args.source.read + c.args.head.verticals + c.args.head.horizontals + c.args.head.horizontals * c.args.head.verticals = omega (arith, place, v.next) in
    this_met _ _ a.answer ∙ (this_met _ _ (rw (a.same, a.next) at b.answer) ∙ (this_met _ _ (unless_holds _ _ (ap is_some span))
    ∙ (this_met _ _ (rw (b.same ∙ a.same, place) at v.answer) ∙ (this_met _ _ (rw (v.same ∙ (b.same ∙ a.same), end) at c.in_ok-read_end.ensures) ∙ none_left))))

pub returns-clause-value : goal.returns-clause-value
unfolding photometry
returns-clause-value c =
    let a = c.in_ok-gammas.ensures in
    let b = c.in_ok-planes.ensures in
    let v = c.in_ok-rows.ensures in
    let planes : c.deref.result.now ≡ angles (all_tokens c.args.source) (c.args.source.read + c.args.head.verticals) c.args.head.horizontals = c.deref.ensures.value ∙ (rw (a.same, a.next) at b.value) in
    let span : span_symmetry (angles (all_tokens c.args.source) (c.args.source.read + c.args.head.verticals) c.args.head.horizontals) ≡ Some c.in-Some.sym = ap span_symmetry (sym planes) ∙ sym c.in-Some.ensures.value in
    let place : c.read_angles-2.new.source.read ≡ c.args.source.read + c.args.head.verticals + c.args.head.horizontals = omega (arith, a.next, b.next) in
    let kind : unwrap_or (span_symmetry (angles (all_tokens c.args.source) (c.args.source.read + c.args.head.verticals) c.args.head.horizontals)) Axis ≡ c.in-Some.sym = ap (λ (o : Option SymKind). unwrap_or o Axis) span in
    let stored : c.deref-2.result.now ≡ angles (all_tokens c.args.source) (c.args.source.read + c.args.head.verticals) c.args.head.horizontals = c.deref-2.ensures.value ∙ (rw (a.same, a.next) at b.value) in
    let gammas : c.deref-3.result.now ≡ angles (all_tokens c.args.source) c.args.source.read c.args.head.verticals = c.deref-3.ensures.value ∙ a.value in
    let rows : c.deref-4.result.now ≡ intensities c.args.head.factor (all_tokens c.args.source) (c.args.source.read + c.args.head.verticals + c.args.head.horizontals) (c.args.head.horizontals * c.args.head.verticals) = c.deref-4.ensures.value ∙ (rw (b.same ∙ a.same, place) at v.value) in
    λ k. record { kind = Lm63; sym = sym kind k; web = (c.in_ok-web.ensures ∙ (λ i. expansion (sym kind i) (stored i) (gammas i) (rows i))) k }
