use Rattle.std.proofs.Common.{◌≡◌, ◌-◌, length, map, string_bytes}
use Rattle.std.specs.List.{list_all, range_with_len}
use Rattle.lux_words.specs.Words.{is_argument, places_behind}
use Rattle.lux_words.proofs.words.is_command.Given as goal

-- the words that are left are arguments where all are
abbrev pub invariant-loop-place : goal.invariant-loop-place
invariant-loop-place l =
    list_all (is_argument l.options (map string_bytes l.words)) (range_with_len l.place (length l.words - l.place))
    ≡ list_all (is_argument l.options (map string_bytes l.words)) (places_behind (map string_bytes l.words))
