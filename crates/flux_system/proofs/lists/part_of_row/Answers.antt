use Rattle.std.proofs.Common.{◌≡◌, ℕ, ◌+◌, ◌*◌, ◌-◌, ap, ◌∙◌, take, drop, arith}
use Rattle.std.proofs.lemmas.Nat.{mul-le}
use Rattle.flux_system.proofs.Dense.{part}
use Rattle.flux_system.proofs.lists.part_of_row.Goals as goal

pub returns-clause-value : goal.returns-clause-value
returns-clause-value c =
    let n = c.args.n in
    let from = c.args.i * n + c.args.first in
    let rows = mul-le (c.args.i + 1) n n n (omega arith) (omega arith) in
    let many : from + c.args.many - from ≡ c.args.many = omega arith in
    ap (λ (k : ℕ). take k (drop from c.args.shares.now)) many ∙ part c.args.shares.now from c.args.many (let square = c.requires.square in let inside = c.requires.inside in omega arith)
