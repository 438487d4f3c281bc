use Rattle.std.proofs.Common.{◌≡◌, ◌∙◌, ap, arith}
use Rattle.duties.proofs.Orders.{hands_on, this_met, this_fails, none_left}
use Rattle.eulumdat_reader.specs.declared.faults.LdtFault.TheVariants.{Memory}
use Rattle.eulumdat_reader.specs.Heads.{count_duties, symmetry}
use Rattle.eulumdat_reader.specs.Planes.{symmetry_of}
use Rattle.eulumdat_reader.specs.Rows.{all_lines}
use Rattle.eulumdat_reader.proofs.head.read_counts.Goals as goal

pub returns-in_err-skip_rows-clause-answer : goal.returns-in_err-skip_rows-clause-answer
unfolding count_duties
returns-in_err-skip_rows-clause-answer c =
    hands_on Memory _ _ _ _ c.from_residual.ensures.1 (rw c.requires at c.in_err-skip_rows.ensures.answer)
    (λ h. this_fails _ _ _ h)

pub returns-in_err-code-clause-answer : goal.returns-in_err-code-clause-answer
unfolding count_duties
returns-in_err-code-clause-answer c =
    let a = c.in_ok-skip_rows.ensures in
    let p1 : c.skip_rows.new.source.read ≡ 2 = omega (arith, c.requires, a.next) in
    hands_on Memory _ _ _ _ c.from_residual-in_err-code.ensures.1 (rw (a.same, p1) at c.in_err-code.ensures.answer)
    (λ h. this_met _ _ (rw c.requires at a.answer) ∙ (this_fails _ _ _ h))

pub returns-in_err-planes-clause-answer : goal.returns-in_err-planes-clause-answer
unfolding count_duties
returns-in_err-planes-clause-answer c =
    let a = c.in_ok-skip_rows.ensures in
    let b = c.in_ok-code.ensures in
    let p1 : c.skip_rows.new.source.read ≡ 2 = omega (arith, c.requires, a.next) in
    let p2 : c.read_whole.new.source.read ≡ 3 = omega (arith, p1, b.next) in
    let kind : c.symmetry_of-sym.result ≡ symmetry (all_lines c.args.source.now) = c.symmetry_of-sym.ensures ∙ ap symmetry_of (rw (a.same, p1) at b.value) in
    hands_on Memory _ _ _ _ c.from_residual-in_err-planes.ensures.1 (rw (b.same ∙ a.same, p2, kind) at c.in_err-planes.ensures.answer)
    (λ h. this_met _ _ (rw c.requires at a.answer) ∙ (this_met _ _ (rw (a.same, p1) at b.answer) ∙ (this_fails _ _ _ h)))

pub returns-in_err-skip_rows-2-clause-answer : goal.returns-in_err-skip_rows-2-clause-answer
unfolding count_duties
returns-in_err-skip_rows-2-clause-answer c =
    let a = c.in_ok-skip_rows.ensures in
    let b = c.in_ok-code.ensures in
    let d = c.in_ok-planes.ensures in
    let p1 : c.skip_rows.new.source.read ≡ 2 = omega (arith, c.requires, a.next) in
    let p2 : c.read_whole.new.source.read ≡ 3 = omega (arith, p1, b.next) in
    let p3 : c.read_plane_count.new.source.read ≡ 4 = omega (arith, p2, d.next) in
    let kind : c.symmetry_of-sym.result ≡ symmetry (all_lines c.args.source.now) = c.symmetry_of-sym.ensures ∙ ap symmetry_of (rw (a.same, p1) at b.value) in
    hands_on Memory _ _ _ _ c.from_residual-in_err-skip_rows-2.ensures.1 (rw (d.same ∙ (b.same ∙ a.same), p3) at c.in_err-skip_rows-2.ensures.answer)
    (λ h. this_met _ _ (rw c.requires at a.answer) ∙ (this_met _ _ (rw (a.same, p1) at b.answer) ∙ (this_met _ _ (rw (b.same ∙ a.same, p2, kind) at d.answer) ∙ (this_fails _ _ _ h))))

pub returns-in_err-gammas-clause-answer : goal.returns-in_err-gammas-clause-answer
unfolding count_duties
returns-in_err-gammas-clause-answer c =
    let a = c.in_ok-skip_rows.ensures in
    let b = c.in_ok-code.ensures in
    let d = c.in_ok-planes.ensures in
    let e = c.in_ok-skip_rows-2.ensures in
    let p1 : c.skip_rows.new.source.read ≡ 2 = omega (arith, c.requires, a.next) in
    let p2 : c.read_whole.new.source.read ≡ 3 = omega (arith, p1, b.next) in
    let p3 : c.read_plane_count.new.source.read ≡ 4 = omega (arith, p2, d.next) in
    let p4 : c.skip_rows-2.new.source.read ≡ 5 = omega (arith, p3, e.next) in
    let kind : c.symmetry_of-sym.result ≡ symmetry (all_lines c.args.source.now) = c.symmetry_of-sym.ensures ∙ ap symmetry_of (rw (a.same, p1) at b.value) in
    hands_on Memory _ _ _ _ c.from_residual-in_err-gammas.ensures.1 (rw (e.same ∙ (d.same ∙ (b.same ∙ a.same)), p4) at c.in_err-gammas.ensures.answer)
    (λ h. this_met _ _ (rw c.requires at a.answer) ∙ (this_met _ _ (rw (a.same, p1) at b.answer) ∙ (this_met _ _ (rw (b.same ∙ a.same, p2, kind) at d.answer) ∙ (this_met _ _ (rw (d.same ∙ (b.same ∙ a.same), p3) at e.answer) ∙ (this_fails _ _ _ h)))))

pub returns-clause-answer : goal.returns-clause-answer
unfolding count_duties
returns-clause-answer c =
    let a = c.in_ok-skip_rows.ensures in
    let b = c.in_ok-code.ensures in
    let d = c.in_ok-planes.ensures in
    let e = c.in_ok-skip_rows-2.ensures in
    let f = c.in_ok-gammas.ensures in
    let p1 : c.skip_rows.new.source.read ≡ 2 = omega (arith, c.requires, a.next) in
    let p2 : c.read_whole.new.source.read ≡ 3 = omega (arith, p1, b.next) in
    let p3 : c.read_plane_count.new.source.read ≡ 4 = omega (arith, p2, d.next) in
    let p4 : c.skip_rows-2.new.source.read ≡ 5 = omega (arith, p3, e.next) in
    let kind : c.symmetry_of-sym.result ≡ symmetry (all_lines c.args.source.now) = c.symmetry_of-sym.ensures ∙ ap symmetry_of (rw (a.same, p1) at b.value) in
    this_met _ _ (rw c.requires at a.answer) ∙ (this_met _ _ (rw (a.same, p1) at b.answer) ∙ (this_met _ _ (rw (b.same ∙ a.same, p2, kind) at d.answer) ∙ (this_met _ _ (rw (d.same ∙ (b.same ∙ a.same), p3) at e.answer) ∙ (this_met _ _ (rw (e.same ∙ (d.same ∙ (b.same ∙ a.same)), p4) at f.answer) ∙ (none_left)))))
