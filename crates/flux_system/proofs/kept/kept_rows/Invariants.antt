use Rattle.std.proofs.Common.{◌≡◌, None, map}
use Rattle.std.specs.List.{range_with_len}
use Rattle.duties.specs.Duties.{each}
use Rattle.flux_system.specs.System.{keep}
use Rattle.flux_system.specs.Validity.{row_duty}
use Rattle.flux_system.specs.Shapes.{system_without_threshold}
use Rattle.flux_system.proofs.kept.kept_rows.Given as goal

abbrev pub invariant-loop-patch : goal.invariant-loop-patch
invariant-loop-patch l = record {
  kept : l.kept.items ≡ map (keep (system_without_threshold l.reflectance l.shares)) (range_with_len 0 l.patch);
  met : each l.patch (row_duty (system_without_threshold l.reflectance l.shares)) ≡ None;
}
