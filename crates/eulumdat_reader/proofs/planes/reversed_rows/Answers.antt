use Rattle.std.proofs.Common.{◌≡◌, ◌∙◌, ℕ, ◌-◌, ◌*◌, ◌≤◌, ◌^◌, List, [], ◌++◌, length, drop, ap, arith}
use Rattle.std.specs.Prelude.{All}
use Rattle.std.specs.List.{range_with_len, flat_map}
use Rattle.std.proofs.lemmas.List.{length-append}
use Rattle.std.proofs.lemmas.List.Elements.{All-append, All-take, All-drop}
use Rattle.photo_web.specs.Web.{row_values}
use Rattle.laws.proofs.Ranges.{lists_grow}
use Rattle.eulumdat_reader.specs.Planes.{reversed_rows}
use Rattle.eulumdat_reader.proofs.planes.reversed_rows.Goals as goal

-- a row keeps what holds of all values
row_limited : (width place : ℕ) (values row : List ℕ) → row ≡ row_values width values place → All (λ value. value ≤ 10 ^ 15) values → All (λ value. value ≤ 10 ^ 15) row
row_limited width place values row is limited = rw is (All-take (λ (v : ℕ). v ≤ 10 ^ 15) width (drop (place * width) values) (All-drop (λ (v : ℕ). v ≤ 10 ^ 15) (place * width) values limited))

pub loop-i-preserved : goal.loop-i-preserved
loop-i-preserved c =
    let items = c.in_ok-extend_from_slice.ensures.items in
    let long = length-append c.loop-i.rows.items c.row.result.now in
    record {
      items = lists_grow (λ (k : ℕ). row_values c.args.width c.args.values.now (c.args.count - 1 - k)) [] c.loop-i.i _ _ c.loop-i.invariant.items (items ∙ ap (λ (row : List ℕ). c.loop-i.rows.items ++ row) c.row.ensures.value);
      len = ap length items ∙ omega (arith, long, c.row.ensures.len, c.loop-i.invariant.len);
      limited = rw items (All-append (λ (v : ℕ). v ≤ 10 ^ 15) c.loop-i.rows.items c.row.result.now c.loop-i.invariant.limited
          (row_limited c.args.width (c.args.count - 1 - c.loop-i.i) c.args.values.now c.row.result.now c.row.ensures.value c.requires.limited));
    }

pub returns-clause-value : goal.returns-clause-value
unfolding reversed_rows
returns-clause-value c =
    let e : c.loop-i.i ≡ c.args.count = omega arith in
    c.loop-i.invariant.items ∙ ap (λ (n : ℕ). flat_map (λ (k : ℕ). row_values c.args.width c.args.values.now (c.args.count - 1 - k)) (range_with_len 0 n)) e
