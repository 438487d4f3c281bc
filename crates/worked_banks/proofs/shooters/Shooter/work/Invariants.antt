use Rattle.flux_accounts.specs.Banks.{IsSeatOf}
use Rattle.worked_banks.proofs.shooters.Shooter.work.Given as goal

abbrev pub invariant-loop-turn : goal.invariant-loop-turn
invariant-loop-turn l = IsSeatOf l.bank l.self.seat
