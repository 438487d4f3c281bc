use Rattle.std.proofs.Common.{◌≡◌, ◌-◌, ◌++◌, length, map, filter, string_bytes}
use Rattle.std.specs.List.{range_with_len}
use Rattle.lux_words.specs.Words.{is_own_operand, places_behind}
use Rattle.lux_words.proofs.words.operands.Given as goal

-- the places of the operands so far, and of those that are left, are those of all
abbrev pub invariant-loop-place : goal.invariant-loop-place
invariant-loop-place l =
    l.places.items ++ filter (is_own_operand l.options (map string_bytes l.words)) (range_with_len l.place (length l.words - l.place))
    ≡ filter (is_own_operand l.options (map string_bytes l.words)) (places_behind (map string_bytes l.words))
