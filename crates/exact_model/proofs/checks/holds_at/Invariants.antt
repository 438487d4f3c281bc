use Rattle.std.proofs.Common.{◌≡◌, ◌+◌, ◌*◌, ◌≤◌, get_or}
use Rattle.flux_system.specs.Sums.{sum_below}
use Rattle.flux_system.specs.System.{scale, coefficient}
use Rattle.exact_model.proofs.checks.holds_at.Given as goal

abbrev pub invariant-loop-from : goal.invariant-loop-from
invariant-loop-from l = record {
  so_far : l.reaches ≡ l.den * (scale * l.direct) + sum_below l.from (λ i. coefficient l.system i l.patch * get_or l.num i 0);
  small : l.reaches ≤ 50000000000000000000000000000000000000 + l.from * 18446744073709551616000000000000;
}
