use Rattle.std.proofs.Common.{◌≡◌, ℕ, ◌<◌, length}
use Rattle.flux_system.specs.System.{patches}
use Rattle.shot_core.specs.Views.{hand_at}
use Rattle.flux_accounts.specs.Banks.{IsSeatOf}
use Rattle.shooter.specs.Layouts.{IsGiving}
use Rattle.shooter.proofs.turns.give_all.Given as goal

-- the patches up to here were given all
abbrev pub invariant-loop-target : goal.invariant-loop-target
invariant-loop-target l = record {
  of : IsSeatOf l.bank l.seat;
  gives : IsGiving (patches l.system) l.system.threshold l.fn.seat l.fn.remembered l.seat l.remembered;
  long : length l.remembered ≡ length l.fn.remembered;
  gone : (k : ℕ) → k < l.target → hand_at k l.seat.history.account ≡ 0;
}
