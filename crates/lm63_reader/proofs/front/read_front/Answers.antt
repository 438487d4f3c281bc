use Rattle.std.proofs.Common.{◌≡◌, ◌∙◌, ◌+◌, Some, None, sym, ap, arith}
use Rattle.duties.proofs.Orders.{hands_on}
use Rattle.lux_lines.specs.Walks.{LinesRead}
use Rattle.lux_lines.specs.Pieces.{line_piece}
use Rattle.lm63_reader.specs.declared.faults.LmFault.TheVariants.{Memory}
use Rattle.lm63_reader.specs.Front.{front_duties}
use Rattle.lm63_reader.proofs.Fronts.{tilt_found, tilt_fails, inclusion_at, inclusion_fails, front_met}
use Rattle.duties.proofs.Orders.{this_fails}
use Rattle.lm63_reader.proofs.Placed.{tilt_within}
use Rattle.lm63_reader.proofs.front.read_front.Goals as goal

pub returns-in_err-read_header-clause-answer : goal.returns-in_err-read_header-clause-answer
unfolding front_duties
returns-in_err-read_header-clause-answer c =
    hands_on Memory _ _ _ _ c.from_residual.ensures.1 (rw c.new-source.ensures at c.in_err-read_header.ensures.answer) (λ h. this_fails _ _ _ h)

pub returns-in_default-clause-answer : goal.returns-in_default-clause-answer
returns-in_default-clause-answer c = λ _.
    let header = rw c.new-source.ensures at c.in_ok-read_header.ensures.answer in
    let text = c.in_ok-read_header.ensures.same ∙ ap (λ (r : LinesRead). r.text) c.new-source.ensures in
    let read : c.read_header.new.source.read ≡ 1 = c.in_ok-read_header.ensures.next ∙ ap (λ (r : LinesRead). r.read + 1) c.new-source.ensures in
    tilt_fails c.args.text.now header (tilt_found c.args.text.now c.read_header.new.source None text read c.in_default.ensures)

pub returns-in_default-inclusion-clause-answer : goal.returns-in_default-inclusion-clause-answer
returns-in_default-inclusion-clause-answer c = λ _.
    let header = rw c.new-source.ensures at c.in_ok-read_header.ensures.answer in
    let text = c.in_ok-read_header.ensures.same ∙ ap (λ (r : LinesRead). r.text) c.new-source.ensures in
    let read : c.read_header.new.source.read ≡ 1 = c.in_ok-read_header.ensures.next ∙ ap (λ (r : LinesRead). r.read + 1) c.new-source.ensures in
    let found = tilt_found c.args.text.now c.read_header.new.source (Some (line_piece c.in-Some.line)) text read c.in-Some.ensures in
    inclusion_fails c.args.text.now (line_piece c.in-Some.line) header found (sym c.in_default-inclusion.ensures)

pub returns-clause-answer : goal.returns-clause-answer
returns-clause-answer c =
    let header = rw c.new-source.ensures at c.in_ok-read_header.ensures.answer in
    let text = c.in_ok-read_header.ensures.same ∙ ap (λ (r : LinesRead). r.text) c.new-source.ensures in
    let read : c.read_header.new.source.read ≡ 1 = c.in_ok-read_header.ensures.next ∙ ap (λ (r : LinesRead). r.read + 1) c.new-source.ensures in
    let found = tilt_found c.args.text.now c.read_header.new.source (Some (line_piece c.in-Some.line)) text read c.in-Some.ensures in
    front_met c.args.text.now (line_piece c.in-Some.line) c.in-Some-inclusion.included header found (sym c.in-Some-inclusion.ensures)

pub returns-clause-tilt : goal.returns-clause-tilt
returns-clause-tilt c =
    let text = c.in_ok-read_header.ensures.same ∙ ap (λ (r : LinesRead). r.text) c.new-source.ensures in
    let read : c.read_header.new.source.read ≡ 1 = c.in_ok-read_header.ensures.next ∙ ap (λ (r : LinesRead). r.read + 1) c.new-source.ensures in
    tilt_found c.args.text.now c.read_header.new.source (Some (line_piece c.in-Some.line)) text read c.in-Some.ensures

pub returns-clause-included : goal.returns-clause-included
returns-clause-included c =
    let text = c.in_ok-read_header.ensures.same ∙ ap (λ (r : LinesRead). r.text) c.new-source.ensures in
    let read : c.read_header.new.source.read ≡ 1 = c.in_ok-read_header.ensures.next ∙ ap (λ (r : LinesRead). r.read + 1) c.new-source.ensures in
    let found = tilt_found c.args.text.now c.read_header.new.source (Some (line_piece c.in-Some.line)) text read c.in-Some.ensures in
    inclusion_at c.args.text.now (line_piece c.in-Some.line) found ∙ sym c.in-Some-inclusion.ensures

pub returns-clause-within : goal.returns-clause-within
returns-clause-within c =
    let text = c.in_ok-read_header.ensures.same ∙ ap (λ (r : LinesRead). r.text) c.new-source.ensures in
    let read : c.read_header.new.source.read ≡ 1 = c.in_ok-read_header.ensures.next ∙ ap (λ (r : LinesRead). r.read + 1) c.new-source.ensures in
    let found = tilt_found c.args.text.now c.read_header.new.source (Some (line_piece c.in-Some.line)) text read c.in-Some.ensures in
    (tilt_within c.args.text.now (line_piece c.in-Some.line) found).ends

pub returns-clause-number : goal.returns-clause-number
returns-clause-number c =
    let text = c.in_ok-read_header.ensures.same ∙ ap (λ (r : LinesRead). r.text) c.new-source.ensures in
    let read : c.read_header.new.source.read ≡ 1 = c.in_ok-read_header.ensures.next ∙ ap (λ (r : LinesRead). r.read + 1) c.new-source.ensures in
    let found = tilt_found c.args.text.now c.read_header.new.source (Some (line_piece c.in-Some.line)) text read c.in-Some.ensures in
    let within = tilt_within c.args.text.now (line_piece c.in-Some.line) found in
    omega (arith, within.number)
