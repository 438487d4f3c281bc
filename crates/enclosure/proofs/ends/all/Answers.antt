use Rattle.std.proofs.Common.{◌≡◌, ℕ, List, ◌++◌, [], ◌∷◌, map, ap, sym, ◌∙◌, arith}
use Rattle.std.specs.List.{range_with_len}
use Rattle.std.proofs.lemmas.List.FromFn.{map-range_with_len_more}
use Rattle.flux_system.specs.System.{FluxSystem, patches}
use Rattle.flux_ledger.specs.declared.ledger.Ledger.{Ledger}
use Rattle.enclosure.specs.Interval.{interval_of, intervals_of}
use Rattle.enclosure.proofs.Bounds.{all_ordered, all_bounded, all_widths}
use Rattle.enclosure.proofs.Enclosing.{encloses_all}
use Rattle.enclosure.proofs.ends.all.Goals as goal

pub loop-j-preserved : goal.loop-j-preserved
loop-j-preserved c =
    c.in_ok-push.ensures.items
    ∙ ((λ k. c.loop-j.invariant k ++ c.ends.ensures.value k ∷ [])
    ∙ sym (map-range_with_len_more (interval_of c.args.system.now c.args.ledger.now) 0 c.loop-j.j c.loop-j.j (omega arith)))

-- all intervals, at the end
all_intervals : (s : FluxSystem) (l : Ledger) (n : ℕ) (ends : List (ℕ × ℕ)) → n ≡ patches s → ends ≡ map (interval_of s l) (range_with_len 0 n) → ends ≡ intervals_of s l
all_intervals s l n ends end so_far = so_far ∙ ap (λ (m : ℕ). map (interval_of s l) (range_with_len 0 m)) end

pub returns-clause-value : goal.returns-clause-value
returns-clause-value c = all_intervals c.args.system.now c.args.ledger.now c.loop-j.j _ (omega arith) c.loop-j.invariant

pub returns-clause-order : goal.returns-clause-order
returns-clause-order c = all_ordered c.args.system.now c.len.ensures.system c.args.ledger.now c.requires _ (all_intervals c.args.system.now c.args.ledger.now c.loop-j.j _ (omega arith) c.loop-j.invariant)

pub returns-clause-bound : goal.returns-clause-bound
returns-clause-bound c = all_bounded c.args.system.now c.len.ensures.system c.args.ledger.now c.requires _ (all_intervals c.args.system.now c.args.ledger.now c.loop-j.j _ (omega arith) c.loop-j.invariant)

pub returns-clause-width : goal.returns-clause-width
returns-clause-width c = all_widths c.args.system.now c.len.ensures.system c.args.ledger.now c.requires _ (all_intervals c.args.system.now c.args.ledger.now c.loop-j.j _ (omega arith) c.loop-j.invariant)

pub returns-clause-encloses : goal.returns-clause-encloses
returns-clause-encloses c = encloses_all c.args.system.now c.len.ensures.system c.args.ledger.now c.requires
