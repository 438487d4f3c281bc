use Rattle.std.proofs.Common.{◌≡◌, map, drop, take, string_bytes}
use Rattle.lux_words.specs.Words.{is_among}
use Rattle.lux_words.proofs.words.stands_before.Given as goal

-- the word is among those that are left where it is among all
abbrev pub invariant-loop-other : goal.invariant-loop-other
invariant-loop-other l = is_among (map string_bytes (drop l.other-index l.other-items)) l.word ≡ is_among (take l.place (map string_bytes l.fn.words)) l.word
