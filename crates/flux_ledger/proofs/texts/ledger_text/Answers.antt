use Rattle.flux_ledger.specs.LedgerText.{head_lines, patch_line}
use Rattle.laws.proofs.Ranges.{lists_grow}
use Rattle.flux_ledger.proofs.texts.ledger_text.Goals as goal

pub loop-patch-preserved : goal.loop-patch-preserved
loop-patch-preserved c =
    lists_grow (patch_line c.args.ledger.now) (head_lines c.args.ledger.now) c.loop-patch.patch _ _ c.loop-patch.invariant c.in_ok-push_patch.ensures
