use Rattle.std.proofs.Common.{◌≡◌, map}
use Rattle.std.specs.List.{range_with_len}
use Rattle.flux_accounts.specs.Banks.{desk_at_start, seat_at_start}
use Rattle.flux_accounts.proofs.banks.Bank.hire_all.Given as goal

-- the seats up to here are hired
abbrev pub invariant-loop-number : goal.invariant-loop-number
invariant-loop-number l = record {
  desk : l.desk ≡ desk_at_start l.self l.number;
  seats : l.all.items ≡ map (seat_at_start l.self) (range_with_len 0 l.number);
}
