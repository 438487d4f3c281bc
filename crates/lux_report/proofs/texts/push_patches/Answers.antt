use Rattle.laws.proofs.Ranges.{lists_grow}
use Rattle.lux_report.specs.Report.{patch_line}
use Rattle.lux_report.proofs.texts.push_patches.Goals as goal

pub loop-patch-preserved : goal.loop-patch-preserved
loop-patch-preserved c =
    lists_grow (patch_line c.args.ledger.now c.args.facts.now) c.args.text.now.items c.loop-patch.patch _ _ c.loop-patch.invariant c.in_ok-push_patch.ensures
