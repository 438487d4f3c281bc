use Rattle.std.proofs.Common.{[]}
use Rattle.lux_report.specs.Report.{head_lines, patch_lines, all_check_lines, status_line}
use Rattle.lux_report.proofs.Growing.{grows_fourfold}
use Rattle.lux_report.proofs.texts.report_text.Goals as goal

pub returns : goal.returns
returns c =
    let p = c.args.project.now in
    let l = c.args.ledger.now in
    let f = c.args.facts.now in
    grows_fourfold [] c.push_head.new.text.items c.push_patches.new.text.items c.push_checks.new.text.items _ (head_lines p l f) (patch_lines l f) (all_check_lines p f) (status_line f)
    (rw (c.in_ok-text.ensures.items) at c.in_ok-push_head.ensures) c.in_ok-push_patches.ensures c.in_ok-push_checks.ensures c.in_ok-push_status.ensures
