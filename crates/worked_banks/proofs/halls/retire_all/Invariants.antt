use Rattle.std.proofs.Common.{All}
use Rattle.std.specs.Vec.Iter.{into_iter_items}
use Rattle.flux_accounts.specs.Banks.{IsSeatOf, IsDeskOf}
use Rattle.worked_banks.proofs.halls.retire_all.Given as goal

abbrev pub invariant-loop-shooter : goal.invariant-loop-shooter
invariant-loop-shooter g l = record {
  desk : IsDeskOf l.bank l.desk;
  rest : All (λ s. IsSeatOf l.bank s.seat) (into_iter_items l.shooter-iterator);
}
