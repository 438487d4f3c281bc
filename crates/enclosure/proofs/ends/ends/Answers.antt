use Rattle.std.proofs.Common.{◌≡◌, ℕ, ◌+◌, ◌≤◌, ap, ◌∙◌, arith}
use Rattle.std.specs.Int.{div_ceil}
use Rattle.flux_system.specs.System.{FluxSystem, patches, scale}
use Rattle.flux_ledger.specs.declared.ledger.Ledger.{Ledger}
use Rattle.enclosure.specs.Interval.{spill_of, greatest_below, rise_from}
use Rattle.enclosure.proofs.Bounds.{low_bound, rise_bound}
use Rattle.enclosure.proofs.ends.ends.Goals as goal

-- so much of what spills is the greatest rise
rise_of : (s : FluxSystem) (l : Ledger) (j spill fraction rise : ℕ) → spill ≡ spill_of s l → fraction ≡ greatest_below (patches s) (rise_from s spill j) → rise ≡ fraction
    → rise ≡ greatest_below (patches s) (rise_from s (spill_of s l) j)
rise_of s l j spill fraction rise spills greatest is = is ∙ (greatest ∙ ap (λ (x : ℕ). greatest_below (patches s) (rise_from s x j)) spills)

pub overflow_cast-rise : goal.overflow_cast-rise
overflow_cast-rise c =
    let is = rise_of c.args.system.now c.args.ledger.now c.args.j c.args.spilled _ _ c.requires.spilled (c.requires.greatest.rises c.args.spilled) c.of-rise.ensures in
    let most = rise_bound c.args.system.now c.len.ensures.system c.args.ledger.now c.requires.done c.args.j c.requires.patch in
    omega arith

pub overflow_add-low : goal.overflow_add-low
overflow_add-low c =
    let low = low_bound c.args.system.now c.len.ensures.system c.args.ledger.now c.requires.done c.args.j c.requires.patch in
    let taken = c.get.ensures in
    let residual = c.get-2.ensures in
    omega arith

-- the high end is within its bound
bounded : (c : goal.After-div_ceil-fraction) → c.get.result + c.get-2.result + c.div_ceil-fraction.result + c.of-rise.result ≤ 400000000000000020
bounded c =
    let low = low_bound c.args.system.now c.len.ensures.system c.args.ledger.now c.requires.done c.args.j c.requires.patch in
    let most = rise_bound c.args.system.now c.len.ensures.system c.args.ledger.now c.requires.done c.args.j c.requires.patch in
    let rise = rise_of c.args.system.now c.args.ledger.now c.args.j c.args.spilled _ _ c.requires.spilled (c.requires.greatest.rises c.args.spilled) c.of-rise.ensures in
    total _ _ _ _ _ _ _ _ c.get.ensures c.get-2.ensures (c.div_ceil-fraction.ensures ∙ ap (λ (e : ℕ). div_ceil e scale) c.get-3.ensures) rise low most
  where
    total : (t r e rise t' r' e' rise' : ℕ) → t' ≡ t → r' ≡ r → e' ≡ e → rise' ≡ rise → t + r + e ≤ 200000000000000020 → rise ≤ 200000000000000000 → t' + r' + e' + rise' ≤ 400000000000000020
    total t r e rise t' r' e' rise' p q s u low most = omega arith

pub overflow_add-result : goal.overflow_add-result
overflow_add-result c = let b = bounded c in omega arith

pub overflow_add-result-2 : goal.overflow_add-result-2
overflow_add-result-2 c = let b = bounded c in omega arith

pub returns-clause-bound : goal.returns-clause-bound
returns-clause-bound c = let b = bounded c in omega arith
