use Rattle.std.proofs.Common.{◌≡◌, ◌+◌, ◌++◌, length, map, vec_len}
use Rattle.std.specs.List.{list_all}
use Rattle.lux_lines.specs.Numerals.{is_numeral, numeral_value}
use Rattle.system_file.proofs.rows.read_numerals.Given as goal

abbrev pub invariant-loop-word : goal.invariant-loop-word
invariant-loop-word l = record {
  values : map numeral_value l.fn.words ≡ l.row.items ++ map numeral_value l.words;
  numerals : list_all is_numeral l.fn.words ≡ list_all is_numeral l.words;
  len : length l.fn.words ≡ vec_len l.row + length l.words;
}

abbrev pub decreases-loop-word : goal.decreases-loop-word
decreases-loop-word l = length l.words
