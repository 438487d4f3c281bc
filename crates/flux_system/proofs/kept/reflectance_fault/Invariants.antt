use Rattle.std.proofs.Common.{◌≡◌, [], None}
use Rattle.duties.specs.Duties.{each}
use Rattle.flux_system.specs.Validity.{reflectance_duty}
use Rattle.flux_system.specs.Shapes.{system_without_threshold}
use Rattle.flux_system.proofs.kept.reflectance_fault.Given as goal

abbrev pub invariant-loop-patch : goal.invariant-loop-patch
invariant-loop-patch l = each l.patch (reflectance_duty (system_without_threshold l.reflectance [])) ≡ None
