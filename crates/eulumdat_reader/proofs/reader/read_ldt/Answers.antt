use Rattle.std.proofs.Common.{◌≡◌, ◌∙◌, ap}
use Rattle.lux_lines.specs.Ends.{body}
use Rattle.lux_lines.specs.Walks.{LinesRead}
use Rattle.eulumdat_reader.proofs.Whole.{reading_ok, reading_err}
use Rattle.eulumdat_reader.proofs.reader.read_ldt.Goals as goal

pub returns-clause-ok : goal.returns-clause-ok
returns-clause-ok c =
    let text : c.new.result.text ≡ body c.args.text.now = ap (λ (r : LinesRead). r.text) c.new.ensures ∙ c.body.ensures.value in
    reading_ok (body c.args.text.now) c.read_rows.result (rw text at c.read_rows.ensures.answer) (rw text at c.read_rows.ensures.value)

pub returns-clause-fault : goal.returns-clause-fault
returns-clause-fault c =
    let text : c.new.result.text ≡ body c.args.text.now = ap (λ (r : LinesRead). r.text) c.new.ensures ∙ c.body.ensures.value in
    reading_err (body c.args.text.now) c.read_rows.result (rw text at c.read_rows.ensures.answer)
