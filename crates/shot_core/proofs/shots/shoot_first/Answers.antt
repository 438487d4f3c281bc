use Rattle.std.proofs.Common.{◌≡◌, ℕ, ◌+◌, ◌*◌, ◌<◌, length, get_or, set, length-set, ap, ◌∙◌, arith}
use Rattle.flux_system.specs.System.{scale, patches}
use Rattle.flux_ledger.specs.declared.ledger.Ledger.{Ledger}
use Rattle.shot_core.specs.Shots.{parts_after}
use Rattle.shot_core.proofs.Keeping.{alike_amounts, alike_fractions}
use Rattle.shot_core.proofs.shots.shoot_first.Goals as goal

pub returns-clause-shot : goal.returns-clause-shot
returns-clause-shot c =
    let s = c.args.system.now in
    let l = c.args.ledger.now in
    let i : ℕ = c.args.patch in
    let after = c.take-t.ensures.ledger in
    let left = ap (λ (x : Ledger). x.residual) after in
    let err = ap (λ (x : Ledger). x.err) after in
    let t = c.take-t.ensures.value in
    let long = ap length left ∙ (length-set l.residual i 0 ∙ c.requires.balanced.lengths.of_residual) in
    let shots : (j : ℕ) → j < patches s → scale * get_or c.carry.new.residual j 0 + parts_after s i c.take-t.result c.carry.new.fractions j ≡ scale * get_or (set l.residual i 0) j 0 + parts_after s i (get_or l.residual i 0) l.err j =
    λ j h.
    let moved = c.carry.ensures.same j (omega arith) in
    let same : scale * get_or c.carry.new.residual j 0 + parts_after s i c.take-t.result c.carry.new.fractions j ≡ scale * get_or c.take-t.new.ledger.residual j 0 + parts_after s i c.take-t.result c.take-t.new.ledger.err j = omega arith in
    same ∙ (λ k. scale * get_or (left k) j 0 + parts_after s i (t k) (err k) j) in
    let residual = c.pass_on.ensures.residual ∙ alike_amounts s i _ _ _ _ _ _ shots in
    let fractions = c.pass_on.ensures.fractions ∙ alike_fractions s i _ _ _ _ _ _ shots in
    λ k. record (after k) { residual = residual k; err = fractions k }
