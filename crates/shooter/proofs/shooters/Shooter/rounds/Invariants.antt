use Rattle.std.proofs.Common.{◌-◌}
use Rattle.flux_accounts.specs.Banks.{IsSeatOf}
use Rattle.shooter.proofs.Rounds.{RoundsSoFar}
use Rattle.shooter.proofs.shooters.Shooter.rounds.Given as goal

-- the passes up to here
abbrev pub invariant-loop-last : goal.invariant-loop-last
invariant-loop-last g l = record {
  of : IsSeatOf l.bank l.self.seat;
  rounds : RoundsSoFar l.system (record { seat = l.fn.self.seat; remembered = l.fn.self.remembered; cursor = l.fn.self.cursor }) l.sums l.last (record { seat = l.self.seat; remembered = l.self.remembered; cursor = l.self.cursor });
}

abbrev pub decreases-loop-last : goal.decreases-loop-last
decreases-loop-last g l = 1000 - l.sums.passes
