use Rattle.std.specs.Prelude.{slice_index_or, codes}
use Rattle.lux_report.specs.Report.{accounts_text, ends_text}
use Rattle.lux_report.proofs.Growing.{grows_thrice}
use Rattle.lux_report.proofs.texts.push_patch.Goals as goal

pub returns : goal.returns
returns c =
    grows_thrice c.args.text.now.items c.push_accounts.new.text.items c.push_ends.new.text.items _ (accounts_text c.args.ledger.now c.args.patch)
    (ends_text (slice_index_or c.args.facts.now.bounds c.args.patch (0, 0))) (codes "\n")
    c.in_ok-push_accounts.ensures (rw (c.bounds.ensures) at c.in_ok-push_ends.ensures) c.in_ok-extend_from_slice.ensures.items
