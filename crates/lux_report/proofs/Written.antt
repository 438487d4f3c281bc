-- Rows that were written one behind the other.
use Rattle.std.proofs.Common.{◌≡◌, ℕ, ◌+◌, List, [], ◌∷◌, ◌++◌, map, sym, ap, subst, ◌∙◌, append_assoc}
use Rattle.std.specs.List.{flat_map, range_with_len}
use Rattle.std.proofs.lemmas.List.Concat.{flat_map-append}
use Rattle.laws.proofs.Ranges.{map-more, flat_map-more}
use Rattle.csv.specs.Records.{fields_of}
use Rattle.lux_report.specs.declared.row_writer.RowWriter.{RowWriter}
use Rattle.lux_report.specs.Report.{csv_line, csv_text}
use Rattle.lux_report.specs.Shapes.{bytes_of, Writes}

-- a row that was gathered of these fields
pub writes_gathered : (a b c : RowWriter) (fields : List (List ℕ)) → b.writer ≡ a.writer → fields_of b.row ≡ fields → Writes b c (fields_of b.row ∷ []) → Writes a c (fields ∷ [])
writes_gathered a b c fields same gathered w = record {
  between = w.between;
  bytes = rw (← same, ← gathered) w.bytes;
}

pub writes_both : (a b c : RowWriter) (first second : List (List (List ℕ))) → Writes a b first → Writes b c second → Writes a c (first ++ second)
writes_both a b c first second w v = record {
  between = v.between;
  bytes = v.bytes
      ∙ (ap (λ (bytes : List ℕ). bytes ++ csv_text second) w.bytes
      ∙ (append_assoc (bytes_of a.writer) (csv_text first) (csv_text second)
      ∙ ap (λ (bytes : List ℕ). bytes_of a.writer ++ bytes) (sym (flat_map-append csv_line first second))));
}

pub writes_same : (a b : RowWriter) (rows same : List (List (List ℕ))) → rows ≡ same → Writes a b rows → Writes a b same
writes_same a b rows same e w = subst (λ (r : List (List (List ℕ))). Writes a b r) e w

-- a row for each number, and one number more
pub writes_row : (a b c : RowWriter) (row : ℕ → List (List ℕ)) (n : ℕ) → Writes a b (map row (range_with_len 0 n)) → Writes b c (row n ∷ []) → Writes a c (map row (range_with_len 0 (n + 1)))
writes_row a b c row n w v = writes_same a c _ _ (sym (map-more row n)) (writes_both a b c _ _ w v)

-- rows for each number, and one number more
pub writes_rows : (a b c : RowWriter) (rows : ℕ → List (List (List ℕ))) (n : ℕ) → Writes a b (flat_map rows (range_with_len 0 n)) → Writes b c (rows n)
    → Writes a c (flat_map rows (range_with_len 0 (n + 1)))
writes_rows a b c rows n w v = writes_same a c _ _ (sym (flat_map-more rows n)) (writes_both a b c _ _ w v)
