use Rattle.std.specs.List.{flat_map, range_with_len}
use Rattle.lux_report.specs.Report.{patch_rows}
use Rattle.lux_report.specs.Shapes.{Writes}
use Rattle.lux_report.proofs.rows.write_patches.Given as goal

-- the rows of the patches so far
abbrev pub invariant-loop-patch : goal.invariant-loop-patch
invariant-loop-patch l = Writes l.initial.rows l.rows (flat_map (patch_rows l.ledger l.facts) (range_with_len 0 l.patch))
