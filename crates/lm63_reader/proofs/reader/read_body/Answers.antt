use Rattle.std.proofs.Common.{◌≡◌, ◌≢◌, ◌+◌, ◌∙◌, Err, length, drop, sym, ap}
use Rattle.std.proofs.lemmas.List.{take_rest}
use Rattle.lux_lines.specs.Walks.{all_tokens}
use Rattle.lux_lines.specs.Pieces.{line_piece}
use Rattle.lm63_reader.specs.declared.faults.LmFault.{LmFault}
use Rattle.lm63_reader.specs.declared.faults.LmFault.TheVariants.{Memory}
use Rattle.lm63_reader.specs.Front.{tokens_behind}
use Rattle.lm63_reader.specs.Lm63.{photometry_of}
use Rattle.laws.proofs.Results.{err_is}
use Rattle.lm63_reader.proofs.Whole.{front_fails, tokens_are, reading_ok, reading_err}
use Rattle.lm63_reader.proofs.reader.read_body.Goals as goal

pub returns-in_err-tilt-clause-fault : goal.returns-in_err-tilt-clause-fault
returns-in_err-tilt-clause-fault c =
    err_is c.from_residual.result _ (λ (f : LmFault). f ≢ Memory → photometry_of c.args.text.now ≡ Err f) c.from_residual.ensures.1
    (λ ne. front_fails c.args.text.now c.in_err-tilt.field-0.0 (c.in_err-tilt.ensures.answer ne))

pub returns-clause-ok : goal.returns-clause-ok
returns-clause-ok c =
    let front = c.in_ok-tilt.ensures in
    let end = c.in_ok-tilt.tilt.start + length c.in_ok-tilt.tilt.text.now in
    let source : c.new.result ≡ record { text = drop (c.in_ok-tilt.tilt.start + length c.in_ok-tilt.tilt.text.now) c.args.text.now; first_line = c.in_ok-tilt.tilt.number; read = 0 } =
    c.new.ensures ∙ (λ k. record { text = take_rest c.args.text.now (c.in_ok-tilt.tilt.start + length c.in_ok-tilt.tilt.text.now) k; first_line = c.in_ok-tilt.tilt.number; read = 0 }) in
    let behind : tokens_behind c.args.text.now ≡ all_tokens c.new.result = tokens_are c.args.text.now (line_piece c.in_ok-tilt.tilt) front.tilt ∙ sym (ap all_tokens source) in
    reading_ok c.args.text.now c.in_ok-tilt.included (all_tokens c.new.result) c.read_numbers.result front.answer front.included behind c.read_numbers.ensures.answer c.read_numbers.ensures.value

pub returns-clause-fault : goal.returns-clause-fault
returns-clause-fault c =
    let front = c.in_ok-tilt.ensures in
    let source : c.new.result ≡ record { text = drop (c.in_ok-tilt.tilt.start + length c.in_ok-tilt.tilt.text.now) c.args.text.now; first_line = c.in_ok-tilt.tilt.number; read = 0 } =
    c.new.ensures ∙ (λ k. record { text = take_rest c.args.text.now (c.in_ok-tilt.tilt.start + length c.in_ok-tilt.tilt.text.now) k; first_line = c.in_ok-tilt.tilt.number; read = 0 }) in
    let behind : tokens_behind c.args.text.now ≡ all_tokens c.new.result = tokens_are c.args.text.now (line_piece c.in_ok-tilt.tilt) front.tilt ∙ sym (ap all_tokens source) in
    reading_err c.args.text.now c.in_ok-tilt.included (all_tokens c.new.result) c.read_numbers.result front.answer front.included behind c.read_numbers.ensures.answer
