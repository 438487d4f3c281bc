use Rattle.std.proofs.Common.{◌≡◌, take, map}
use Rattle.transfer_shares.specs.Shares.{weight, weight_share}
use Rattle.transfer_shares.proofs.rows.write_row.Given as goal

abbrev pub invariant-loop-i : goal.invariant-loop-i
invariant-loop-i l = take l.i l.into ≡ map (λ to. weight_share l.total (weight l.from to)) (take l.i l.patches)
