use Rattle.std.proofs.Common.{◌≡◌, ℕ, List, ◌+◌, ◌-◌, ◌/◌, ◌++◌, map, ap, subst, ◌∙◌, arith}
use Rattle.std.specs.Prelude.{IfOk}
use Rattle.std.specs.List.{range_with_len}
use Rattle.flux_system.specs.declared.entries.Entry.{Entry}
use Rattle.flux_system.specs.System.{FluxSystem}
use Rattle.flux_system.specs.Shapes.{system_without_threshold, list_of}
use Rattle.flux_system.proofs.Dense.{joined}
use Rattle.flux_system.proofs.lists.+halves.Goals as goal

pub returns : goal.returns
returns g n c =
    let s : FluxSystem = system_without_threshold c.args.reflectance.now c.args.shares.now in
    let list : ℕ → List Entry = list_of c.args.side s in
    let first = c.args.first in
    let half = c.args.many / 2 in
    let rest = c.args.many - half in
    let low = subst (λ r. IfOk r (λ lists. lists.items ≡ map list (range_with_len first half))) c.in_ok-lists.was c.join-low.ensures.first in
    let high = subst (λ r. IfOk r (λ lists. lists.items ≡ map list (range_with_len (first + half) rest))) c.in_ok-high.was c.join-low.ensures.second in
    c.in_ok-append.ensures.items
    ∙ ((λ k. low k ++ high k)
    ∙ (joined list list first half (first + half) rest (λ j _. list (first + half + j))
    ∙ ap (λ (m : ℕ). map list (range_with_len first m)) (omega arith)))
