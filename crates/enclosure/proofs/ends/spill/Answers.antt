use Rattle.std.proofs.Common.{◌≡◌, ℕ, ◌*◌, ap, ◌∙◌, arith}
use Rattle.std.specs.Int.{div_ceil}
use Rattle.flux_system.specs.Sums.{sum_below}
use Rattle.flux_system.specs.System.{patches, scale}
use Rattle.flux_ledger.specs.Balance.{unshot_at}
use Rattle.enclosure.specs.Interval.{spill_of}
use Rattle.enclosure.proofs.Bounds.{unshot_step, spill_direct, spill_few}
use Rattle.enclosure.proofs.ends.spill.Goals as goal

pub overflow_add-unshot-in-loop-j : goal.overflow_add-unshot-in-loop-j
overflow_add-unshot-in-loop-j c =
    let scaled : c.from.result * c.from-in-loop-j.result ≡ scale * c.from-in-loop-j.result = ap (λ (k : ℕ). k * c.from-in-loop-j.result) c.from.ensures in
    let residual = c.from-in-loop-j.ensures ∙ c.get.ensures in
    let err = c.from-in-loop-j-2.ensures ∙ c.get-in-loop-j.ensures in
    let step = unshot_step c.args.system.now c.len-j-end.ensures.system c.args.ledger.now c.requires c.loop-j.j (omega arith) in
    omega arith

-- the quotient is what spills
spilled : (c : goal.After-div_ceil) → c.div_ceil.result ≡ spill_of c.args.system.now c.args.ledger.now
spilled c =
    let end : c.loop-j.j ≡ patches c.args.system.now = omega arith in
    let whole = c.loop-j.invariant ∙ ap (λ (n : ℕ). sum_below n (unshot_at c.args.ledger.now)) end in
    c.div_ceil.ensures ∙ (λ k. div_ceil (whole k) (c.from-2.ensures k))

pub overflow_cast-result : goal.overflow_cast-result
overflow_cast-result c =
    let is = spilled c in
    let direct = spill_direct c.args.system.now c.len-j-end.ensures.system c.args.ledger.now c.requires in
    let limited = c.requires.limited in
    omega arith

pub returns-clause-few : goal.returns-clause-few
returns-clause-few c =
    let is = spilled c in
    let few = spill_few c.args.system.now c.len-j-end.ensures.system c.args.ledger.now c.requires in
    omega arith

pub returns-clause-direct : goal.returns-clause-direct
returns-clause-direct c =
    let is = spilled c in
    let direct = spill_direct c.args.system.now c.len-j-end.ensures.system c.args.ledger.now c.requires in
    omega arith
