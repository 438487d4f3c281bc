use Rattle.std.proofs.Common.{◌∙◌, refl}
use Rattle.lux_report.specs.Report.{header_row}
use Rattle.lux_report.proofs.Written.{writes_gathered}
use Rattle.lux_report.proofs.rows.write_header.Goals as goal

pub returns : goal.returns
returns c =
    let f1 = c.in_ok-field.ensures in
    let f2 = c.in_ok-field-2.ensures in
    let f3 = c.in_ok-field-3.ensures in
    let f4 = c.in_ok-field-4.ensures in
    let f5 = c.in_ok-field-5.ensures in
    let f6 = c.in_ok-field-6.ensures in
    let f7 = c.in_ok-field-7.ensures in
    writes_gathered c.args.rows.now c.field-7.new.self c.end.new.self header_row
    (f7.writer ∙ (f6.writer ∙ (f5.writer ∙ (f4.writer ∙ (f3.writer ∙ (f2.writer ∙ (f1.writer ∙ c.begin.ensures.writer)))))))
    (rw (f7.fields, f6.fields, f5.fields, f4.fields, f3.fields, f2.fields, f1.fields, c.begin.ensures.fields) refl)
    c.in_ok-end.ensures
