use Rattle.std.proofs.Common.{◌≡◌, ◌-◌, ◌*◌, ◌≤◌, ◌^◌, length}
use Rattle.std.specs.Prelude.{All}
use Rattle.std.specs.List.{range_with_len, flat_map}
use Rattle.photo_web.specs.Web.{row_values}
use Rattle.eulumdat_reader.proofs.planes.reversed_rows.Given as goal

abbrev pub invariant-loop-i : goal.invariant-loop-i
invariant-loop-i l = record {
  items : l.rows.items ≡ flat_map (λ k. row_values l.width l.values (l.count - 1 - k)) (range_with_len 0 l.i);
  len : length l.rows.items ≡ l.i * l.width;
  limited : All (λ value. value ≤ 10 ^ 15) l.rows.items;
}
