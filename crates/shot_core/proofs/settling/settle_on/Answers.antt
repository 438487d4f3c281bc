use Rattle.std.proofs.Common.{ℕ, ◌<◌, ◌≤◌, List, length, get_or, sym, ap, subst, ◌∙◌, arith}
use Rattle.std.specs.List.{sum}
use Rattle.picker.specs.Greatest.{greatest_place}
use Rattle.flux_system.specs.System.{patches}
use Rattle.flux_ledger.specs.declared.ledger.Ledger.{Ledger}
use Rattle.flux_ledger.proofs.Bounds.{balances}
use Rattle.shot_core.specs.Shots.{shot}
use Rattle.shot_core.specs.Settling.{brightest_patch, settled_ledger}
use Rattle.shot_core.proofs.Lists.{list-length}
use Rattle.shot_core.proofs.Booking.{row-share}
use Rattle.shot_core.proofs.Keeping.{residual_stays, after_balanced, after_paid, after_falls}
use Rattle.shot_core.proofs.Ending.{settling_goes_on, settling_ends}
use Rattle.shot_core.proofs.settling.settle_on.Goals as goal

pub follow-requires-clause-length : goal.follow-requires-clause-length
follow-requires-clause-length c =
    let i = c.loop-flux.invariant in
    ap length c.as_slice-in-loop-flux.ensures
    ∙ (ap (λ (l : Ledger). length l.residual) c.shoot.ensures.shot ∙ (list-length _ (patches c.args.system.now) ∙ sym (ap length i.follows ∙ i.balanced.lengths.of_residual)))

pub follow-requires-clause-patch : goal.follow-requires-clause-patch
follow-requires-clause-patch c =
    let i = c.loop-flux.invariant in
    let long = ap length c.as_slice-in-loop-flux.ensures ∙ (ap (λ (l : Ledger). length l.residual) c.shoot.ensures.shot ∙ list-length _ (patches c.args.system.now)) in
    let was = i.balanced.lengths.of_residual in
    let inside = i.inside in
    omega arith

pub follow-requires-clause-row : goal.follow-requires-clause-row
follow-requires-clause-row c =
    let long = ap length c.as_slice-in-loop-flux.ensures ∙ (ap (λ (l : Ledger). length l.residual) c.shoot.ensures.shot ∙ list-length _ (patches c.args.system.now)) in
    λ k d h. let inside = c.row.ensures.inside k d h in omega arith

pub follow-requires-clause-others : goal.follow-requires-clause-others
follow-requires-clause-others c =
    let i = c.loop-flux.invariant in
    let s = c.args.system.now in
    let l = c.loop-flux.ledger in
    let long = ap length c.as_slice-in-loop-flux.ensures ∙ (ap (λ (x : Ledger). length x.residual) c.shoot.ensures.shot ∙ list-length _ (patches s)) in
    let was = i.balanced.lengths.of_residual in
    let errs = i.balanced.lengths.of_err in
    λ j h ne none.
    let inside : j < patches s = omega arith in
    let here : c.loop-flux.patch < patches s = let at = i.inside in omega arith in
    ap (λ (xs : List ℕ). get_or xs j 0) c.as_slice-in-loop-flux.ensures
    ∙ (ap (λ (x : Ledger). get_or x.residual j 0) c.shoot.ensures.shot
    ∙ (residual_stays s l c.loop-flux.patch here (balances s l i.balanced) j inside ne (sym (row-share s c.loop-flux.patch c.row.result.now c.row.ensures.entries j inside) ∙ none) (i.small j (omega arith))
    ∙ sym (ap (λ (xs : List ℕ). get_or xs j 0) i.follows)))

pub loop-flux-smaller : goal.loop-flux-smaller
loop-flux-smaller c =
    let i = c.loop-flux.invariant in
    let flux = ap sum i.direct in
    after_falls c.args.system.now c.len-2.ensures.system c.loop-flux.ledger i.balanced i.paid (omega arith) c.loop-flux.patch c.loop-flux.flux i.is i.inside (omega arith) _ c.shoot.ensures.shot

pub loop-flux-preserved : goal.loop-flux-preserved
loop-flux-preserved c =
    let i = c.loop-flux.invariant in
    let s = c.args.system.now in
    let valid = c.len-2.ensures.system in
    let l = c.loop-flux.ledger in
    let patch : ℕ = c.loop-flux.patch in
    let flux = ap sum i.direct in
    let is = i.is in
    let enough : s.threshold ≤ get_or l.residual patch 0 = omega arith in
    let reaching : s.threshold ≤ get_or l.residual (brightest_patch l.residual) 0 = subst (λ (k : ℕ). s.threshold ≤ get_or l.residual k 0) i.first enough in
    let shot_is = c.shoot.ensures.shot in
    let follows = c.follow.ensures ∙ c.as_slice-in-loop-flux.ensures in
    record {
      balanced = after_balanced s valid l i.balanced i.paid (omega arith) patch c.loop-flux.flux is i.inside (omega arith) _ shot_is;
      paid = after_paid s valid l i.balanced i.paid (omega arith) patch c.loop-flux.flux is i.inside (omega arith) _ shot_is;
      small = c.shoot.ensures.small;
      alike = ap (settled_ledger s) shot_is ∙ (ap (λ (k : ℕ). settled_ledger s (shot s l k)) i.first ∙ (settling_goes_on s valid l (balances s l i.balanced) reaching ∙ i.alike));
      direct = ap (λ (x : Ledger). x.direct) shot_is ∙ i.direct;
      parts = ap (λ (x : Ledger). x.parts) shot_is ∙ i.parts;
      follows = follows;
      first = c.best.ensures.place ∙ ap greatest_place follows;
      is = sym c.best.ensures.at ∙ ap (λ (xs : List ℕ). get_or xs c.best.result.0 0) follows;
      inside = subst (λ (xs : List ℕ). c.best.result.0 < length xs) follows c.best.ensures.inside;
      most = subst (λ (xs : List ℕ). (k : ℕ) → k < length xs → get_or xs k 0 ≤ c.best.result.1) follows c.best.ensures.most;
    }

pub returns-clause-settled : goal.returns-clause-settled
returns-clause-settled c =
    let i = c.loop-flux.invariant in
    let s = c.args.system.now in
    let l = c.loop-flux.ledger in
    let is = i.is in
    let low : get_or l.residual c.loop-flux.patch 0 < s.threshold = omega arith in
    let rests : get_or l.residual (brightest_patch l.residual) 0 < s.threshold = subst (λ (k : ℕ). get_or l.residual k 0 < s.threshold) i.first low in
    sym (settling_ends s c.len-2.ensures.system l (balances s l i.balanced) rests) ∙ i.alike
