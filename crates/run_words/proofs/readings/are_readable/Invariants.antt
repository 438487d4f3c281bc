use Rattle.std.proofs.Common.{◌≡◌, map, drop, string_bytes}
use Rattle.std.specs.List.{list_all}
use Rattle.run_words.specs.Shapes.{is_readable}
use Rattle.run_words.proofs.readings.are_readable.Given as goal

-- the words that are left are readable where all are
abbrev pub invariant-loop-word : goal.invariant-loop-word
invariant-loop-word l = list_all is_readable (map string_bytes (drop l.word-index l.words)) ≡ list_all is_readable (map string_bytes l.words)
