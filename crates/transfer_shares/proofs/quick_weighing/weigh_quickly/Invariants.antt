use Rattle.std.proofs.Common.{◌≡◌, ◌*◌, ◌≤◌, take, map, sum}
use Rattle.transfer_shares.specs.Shares.{weight}
use Rattle.transfer_shares.proofs.quick_weighing.weigh_quickly.Given as goal

abbrev pub invariant-loop-i : goal.invariant-loop-i
invariant-loop-i l = record {
  written : take l.i l.into ≡ map (weight l.from) (take l.i l.patches);
  total : l.total ≡ sum (take l.i l.into);
  most : l.total ≤ 10000000000000000000000000 * l.i;
}
