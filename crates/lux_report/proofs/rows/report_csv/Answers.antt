use Rattle.std.proofs.Common.{◌≡◌, ◌∙◌}
use Rattle.std.proofs.lemmas.Result.{IfOk-weaker}
use Rattle.lux_report.specs.Report.{report_csv, report_rows}
use Rattle.lux_report.specs.Shapes.{bytes_of, Writes}
use Rattle.lux_report.proofs.Written.{writes_both}
use Rattle.lux_report.proofs.rows.report_csv.Goals as goal

pub returns : goal.returns
returns c =
    let p = c.args.project.now in
    let l = c.args.ledger.now in
    let f = c.args.facts.now in
    let head = writes_both _ _ _ _ _ c.in_ok-write_header.ensures c.in_ok-write_total.ensures in
    let patches = writes_both _ _ _ _ _ head c.in_ok-write_patches.ensures in
    let checks = writes_both _ _ _ _ _ patches c.in_ok-write_checks.ensures in
    let all : Writes c.in_ok-rows.rows c.write_status.new.rows (report_rows p l f) = writes_both _ _ _ _ _ checks c.in_ok-write_status.ensures in
    let bytes : bytes_of c.write_status.new.rows.writer ≡ report_csv p l f = rw (c.in_ok-rows.ensures.empty) at all.bytes in
    IfOk-weaker c.into_bytes.result _ _ (λ text e. e ∙ bytes) c.into_bytes.ensures
