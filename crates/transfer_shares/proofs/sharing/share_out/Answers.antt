use Rattle.std.proofs.Common.{◌≤◌, List, ℕ, sym, subst, arith}
use Rattle.std.specs.List.{sum}
use Rattle.transfer_shares.proofs.Totals.{shares_by_places, shares_of-le}
use Rattle.transfer_shares.proofs.sharing.share_out.Goals as goal

pub returns-clause-shares : goal.returns-clause-shares
returns-clause-shares c = shares_by_places c.loop-i.i c.args.total c.args.weights.now c.loop-i.into c.requires.sum (omega arith) (omega arith) c.loop-i.invariant

pub returns-clause-total : goal.returns-clause-total
returns-clause-total c =
    let shares = shares_by_places c.loop-i.i c.args.total c.args.weights.now c.loop-i.into c.requires.sum (omega arith) (omega arith) c.loop-i.invariant in
    subst (λ (xs : List ℕ). sum xs ≤ 999999999) (sym shares) (shares_of-le c.args.weights.now)
