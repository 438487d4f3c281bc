use Rattle.lux_report.specs.Report.{patch_rows}
use Rattle.lux_report.proofs.Written.{writes_rows}
use Rattle.lux_report.proofs.rows.write_patches.Goals as goal

pub loop-patch-preserved : goal.loop-patch-preserved
loop-patch-preserved c =
    writes_rows c.args.rows.now c.loop-patch.rows c.write_patch.new.rows (patch_rows c.args.ledger.now c.args.facts.now) c.loop-patch.patch c.loop-patch.invariant c.in_ok-write_patch.ensures
