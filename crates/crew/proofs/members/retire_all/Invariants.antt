use Rattle.std.proofs.Common.{◌≡◌, ◌+◌, ◌<◌, ℕ, All, length, sum_by}
use Rattle.std.specs.Vec.Iter.{into_iter_items}
use Rattle.flux_system.specs.System.{patches}
use Rattle.shot_core.specs.Views.{taken_at}
use Rattle.flux_accounts.specs.Banks.{IsSeatOf, IsDeskOf}
use Rattle.crew.proofs.members.retire_all.Given as goal

-- what the desk has and what the members that are left have are together what there was
abbrev pub invariant-loop-member : goal.invariant-loop-member
invariant-loop-member g l = record {
  desk : IsDeskOf l.bank l.desk;
  rest : All (λ m. IsSeatOf l.bank m.shooter.seat) (into_iter_items l.member-iterator);
  out : l.desk.history.account.out ≡ length (into_iter_items l.member-iterator);
  parts : l.desk.history.account.parts + length (into_iter_items l.member-iterator) ≡ l.fn.desk.history.account.parts + length l.fn.members.items;
  wins : l.desk.history.account.wins + sum_by (λ m. m.shooter.seat.history.account.wins) (into_iter_items l.member-iterator) ≡ l.fn.desk.history.account.wins + sum_by (λ m. m.shooter.seat.history.account.wins) l.fn.members.items;
  taken : (j : ℕ) → j < patches l.bank.system → taken_at j l.desk.history.account + sum_by (λ m. taken_at j m.shooter.seat.history.account) (into_iter_items l.member-iterator) ≡ taken_at j l.fn.desk.history.account + sum_by (λ m. taken_at j m.shooter.seat.history.account) l.fn.members.items;
}
