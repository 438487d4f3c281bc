use Rattle.std.proofs.Common.{sym, ◌∙◌, arith}
use Rattle.duties.proofs.Orders.{each_none, each_more, each_fails}
use Rattle.flux_system.specs.System.{patches}
use Rattle.ledger_audit.specs.Findings.{bounds_duty}
use Rattle.ledger_audit.proofs.Tests.{low_fails, high_fails, pair_holds}
use Rattle.ledger_audit.proofs.pairs.first_pair.Goals.{then-given_low-low-via-then-given_low-low, then-given_low-low-via-else-given_low-low+then-given_high-high}
use Rattle.ledger_audit.proofs.pairs.first_pair.Goals as goal

pub loop-patch-init : goal.loop-patch-init
loop-patch-init c = each_none _

pub returns-then-given_low-low : goal.returns-then-given_low-low
returns-then-given_low-low c =
    sym (each_fails (bounds_duty c.args.system.now c.args.ledger.now c.args.given.now) (patches c.args.system.now) c.loop-patch.patch _ (omega arith) c.loop-patch.invariant (elim c.then-given_low-low.branch [
      | then-given_low-low-via-then-given_low-low w ↦ low_fails c.args.system.now c.args.ledger.now c.args.given.now c.loop-patch.patch _ _ c.interval-low.ensures.value w.if-given_low-low.true
      | then-given_low-low-via-else-given_low-low+then-given_high-high w ↦ high_fails c.args.system.now c.args.ledger.now c.args.given.now c.loop-patch.patch _ _ c.interval-low.ensures.value w.if-given_high-high.true
    ]))

pub loop-patch-preserved : goal.loop-patch-preserved
loop-patch-preserved c =
    each_more (bounds_duty c.args.system.now c.args.ledger.now c.args.given.now) c.loop-patch.patch c.loop-patch.invariant
    ∙ pair_holds c.args.system.now c.args.ledger.now c.args.given.now c.loop-patch.patch _ _ c.interval-low.ensures.value c.if-given_low-low.false c.if-given_high-high.false
