use Rattle.std.proofs.Common.{[], refl, sym, ◌∙◌}
use Rattle.duties.proofs.Orders.{each_none, each_more, each_fails}
use Rattle.flux_system.specs.Validity.{reflectance_duty}
use Rattle.flux_system.specs.Shapes.{system_without_threshold}
use Rattle.flux_system.proofs.Tests.{reflectance_met, reflectance_refused}
use Rattle.flux_system.proofs.kept.reflectance_fault.Goals as goal

pub loop-patch-init : goal.loop-patch-init
loop-patch-init c = each_none _

pub returns-then-value-gt-MOST_REFLECTANCE : goal.returns-then-value-gt-MOST_REFLECTANCE
returns-then-value-gt-MOST_REFLECTANCE c =
    sym (each_fails (reflectance_duty (system_without_threshold c.args.reflectance.now [])) _ c.loop-patch.patch _ c.loop-patch-test.true c.loop-patch.invariant (reflectance_refused (system_without_threshold c.args.reflectance.now []) c.loop-patch.patch _ refl c.if-value-gt-MOST_REFLECTANCE.true))

pub loop-patch-preserved : goal.loop-patch-preserved
loop-patch-preserved c =
    each_more (reflectance_duty (system_without_threshold c.args.reflectance.now [])) c.loop-patch.patch c.loop-patch.invariant ∙ reflectance_met (system_without_threshold c.args.reflectance.now []) c.loop-patch.patch _ refl c.if-value-gt-MOST_REFLECTANCE.false
