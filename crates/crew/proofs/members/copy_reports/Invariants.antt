use Rattle.std.proofs.Common.{◌≡◌, ◌<◌, ℕ, length, map, get_or}
use Rattle.shooter.specs.declared.reports.PassReport.{PassReport}
use Rattle.crew.proofs.members.copy_reports.Given as goal

abbrev pub invariant-loop-k : goal.invariant-loop-k
invariant-loop-k g l = record {
  lengths : length l.reports ≡ length l.fn.reports;
  reports : (i : ℕ) (d : PassReport) → i < l.k → get_or l.reports i d ≡ get_or (map (λ m. m.report) l.members) i d;
}
