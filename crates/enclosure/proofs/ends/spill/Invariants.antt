use Rattle.std.proofs.Common.{◌≡◌}
use Rattle.flux_system.specs.Sums.{sum_below}
use Rattle.flux_ledger.specs.Balance.{unshot_at}
use Rattle.enclosure.proofs.ends.spill.Given as goal

-- what is unshot at the patches so far
abbrev pub invariant-loop-j : goal.invariant-loop-j
invariant-loop-j l = l.unshot ≡ sum_below l.j (unshot_at l.ledger)
