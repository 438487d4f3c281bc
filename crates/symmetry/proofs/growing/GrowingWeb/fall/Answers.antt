use Rattle.std.proofs.Common.{◌≡◌, ℕ, ◌+◌, ◌-◌, ◌++◌, slice_index, map, ap, ◌∙◌, arith}
use Rattle.std.specs.List.{range_with_len, flat_map}
use Rattle.photo_web.specs.Web.{row_values}
use Rattle.laws.proofs.Ranges.{values_grow, lists_grow}
use Rattle.symmetry.proofs.growing.GrowingWeb.fall.Goals as goal

pub loop-place-preserved : goal.loop-place-preserved
loop-place-preserved c =
    let stored = c.args.stored.now in
    let done = c.args.to - c.loop-place.place in
    let more : c.args.to - (c.loop-place.place - 1) ≡ (c.args.to - c.loop-place.place) + 1 = omega arith in
    let at : c.loop-place.place - 1 ≡ c.args.to - 1 - (c.args.to - c.loop-place.place) = omega arith in
    record {
      planes = rw more (values_grow (λ (i : ℕ). c.args.sum - slice_index stored.planes.now (c.args.to - 1 - i)) _ done _ _ c.loop-place.invariant.planes (rw (← at) c.in_ok-append.ensures.planes));
      values = rw more (lists_grow (λ (i : ℕ). row_values stored.width stored.rows.now (c.args.to - 1 - i)) _ done _ _ c.loop-place.invariant.values (rw (← at) c.in_ok-append.ensures.values));
      count = omega (arith, c.in_ok-append.ensures.count);
      above = omega arith;
    }

pub returns-clause-planes : goal.returns-clause-planes
returns-clause-planes c =
    let all : c.args.to - c.loop-place.place ≡ c.args.to - c.args.from = omega (arith, c.loop-place.invariant.above) in
    c.loop-place.invariant.planes
    ∙ ap (λ (n : ℕ). c.args.self.now.planes.items ++ map (λ (i : ℕ). c.args.sum - slice_index c.args.stored.now.planes.now (c.args.to - 1 - i)) (range_with_len 0 n)) all

pub returns-clause-values : goal.returns-clause-values
returns-clause-values c =
    let all : c.args.to - c.loop-place.place ≡ c.args.to - c.args.from = omega (arith, c.loop-place.invariant.above) in
    c.loop-place.invariant.values
    ∙ ap (λ (n : ℕ). c.args.self.now.values.items ++ flat_map (λ (i : ℕ). row_values c.args.stored.now.width c.args.stored.now.rows.now (c.args.to - 1 - i)) (range_with_len 0 n)) all

pub returns-clause-count : goal.returns-clause-count
returns-clause-count c = omega (arith, c.loop-place.invariant.above, c.loop-place.invariant.count)
