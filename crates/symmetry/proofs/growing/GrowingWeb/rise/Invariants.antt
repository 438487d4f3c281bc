use Rattle.std.proofs.Common.{◌≡◌, ◌+◌, ◌-◌, ◌++◌, slice_index, map, vec_len}
use Rattle.std.specs.List.{range_with_len, flat_map}
use Rattle.photo_web.specs.Web.{row_values}
use Rattle.symmetry.proofs.growing.GrowingWeb.rise.Given as goal

abbrev pub invariant-loop-place : goal.invariant-loop-place
invariant-loop-place l = record {
  planes : l.self.planes.items ≡ l.initial.self.planes.items ++ map (λ i. l.turn + slice_index l.stored.planes.now (l.from + i)) (range_with_len 0 (l.place - l.from));
  values : l.self.values.items ≡ l.initial.self.values.items ++ flat_map (λ i. row_values l.stored.width l.stored.rows.now (l.from + i)) (range_with_len 0 (l.place - l.from));
  count : vec_len l.self.planes ≡ vec_len l.initial.self.planes + (l.place - l.from);
}
