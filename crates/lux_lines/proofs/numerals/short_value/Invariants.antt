use Rattle.std.proofs.Common.{◌≡◌, ◌<◌, ◌^◌, take, true}
use Rattle.std.specs.List.{list_all}
use Rattle.std.specs.Char.{is_ascii_digit}
use Rattle.lux_lines.specs.Numerals.{numeral_value}
use Rattle.lux_lines.proofs.numerals.short_value.Given as goal

abbrev pub invariant-loop-byte : goal.invariant-loop-byte
invariant-loop-byte l = record {
  so_far : l.value ≡ numeral_value (take l.byte-index l.word);
  small : l.value < 10 ^ l.byte-index;
  digits : list_all is_ascii_digit (take l.byte-index l.word) ≡ true;
}
