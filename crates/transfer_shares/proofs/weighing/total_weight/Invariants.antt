use Rattle.std.proofs.Common.{◌≡◌, ◌*◌, ◌≤◌, take}
use Rattle.std.specs.List.{sum_by}
use Rattle.transfer_shares.specs.Shares.{weight}
use Rattle.transfer_shares.proofs.weighing.total_weight.Given as goal

abbrev pub invariant-loop-to : goal.invariant-loop-to
invariant-loop-to l = record {
  added : l.total ≡ sum_by (weight l.from) (take l.to-index l.patches);
  most : l.total ≤ 10000000000000000000000000 * l.to-index;
}
