use Rattle.std.proofs.Common.{◌≡◌, ℕ, ◌<◌}
use Rattle.shot_core.specs.Views.{hand_at}
use Rattle.flux_accounts.specs.Banks.{IsSeatOf}
use Rattle.worked_banks.proofs.shooters.give_all.Given as goal

abbrev pub invariant-loop-target : goal.invariant-loop-target
invariant-loop-target l = record {
  of : IsSeatOf l.bank l.seat;
  gone : (j : ℕ) → j < l.target → hand_at j l.seat.history.account ≡ 0;
}
