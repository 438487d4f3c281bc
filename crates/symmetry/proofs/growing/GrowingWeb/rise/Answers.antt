use Rattle.std.proofs.Common.{◌≡◌, ℕ, ◌+◌, ◌-◌, slice_index, arith}
use Rattle.photo_web.specs.Web.{row_values}
use Rattle.laws.proofs.Ranges.{values_grow, lists_grow}
use Rattle.symmetry.proofs.growing.GrowingWeb.rise.Goals as goal

pub loop-place-preserved : goal.loop-place-preserved
loop-place-preserved c =
    let stored = c.args.stored.now in
    let done = c.loop-place.place - c.args.from in
    let more : c.loop-place.place + 1 - c.args.from ≡ (c.loop-place.place - c.args.from) + 1 = omega arith in
    let at : c.loop-place.place ≡ c.args.from + (c.loop-place.place - c.args.from) = omega arith in
    record {
      planes = rw more (values_grow (λ (i : ℕ). c.args.turn + slice_index stored.planes.now (c.args.from + i)) _ done _ _ c.loop-place.invariant.planes (rw (← at) c.in_ok-append.ensures.planes));
      values = rw more (lists_grow (λ (i : ℕ). row_values stored.width stored.rows.now (c.args.from + i)) _ done _ _ c.loop-place.invariant.values (rw (← at) c.in_ok-append.ensures.values));
      count = omega (arith, c.in_ok-append.ensures.count);
    }
