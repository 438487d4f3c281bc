use Rattle.std.proofs.Common.{◌≡◌, ◌≤◌, List, ℕ, map, sym, subst, arith}
use Rattle.std.specs.List.{sum}
use Rattle.transfer_shares.specs.Shares.{weight, shares_of}
use Rattle.transfer_shares.proofs.Totals.{shares_by_weights, shares_of-le}
use Rattle.transfer_shares.proofs.rows.write_row.Goals as goal

pub returns-clause-shares : goal.returns-clause-shares
returns-clause-shares c =
    shares_by_weights (weight c.args.from.now) c.args.patches.now c.loop-i.i c.total_weight-total.result c.loop-i.into c.total_weight-total.ensures.total (omega arith) (omega arith) c.loop-i.invariant

pub returns-clause-total : goal.returns-clause-total
returns-clause-total c =
    let shares = returns-clause-shares c in
    subst (λ (xs : List ℕ). sum xs ≤ 999999999) (sym shares) (shares_of-le (map (weight c.args.from.now) c.args.patches.now))
