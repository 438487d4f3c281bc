use Rattle.std.proofs.Common.{◌≡◌, map, drop}
use Rattle.lux_words.specs.Words.{is_among}
use Rattle.lux_words.proofs.words.is_listed.Given as goal

-- the word is among those that are left where it is among all
abbrev pub invariant-loop-option : goal.invariant-loop-option
invariant-loop-option l = is_among (map (λ option. option.now) (drop l.option-index l.options)) l.word ≡ is_among (map (λ option. option.now) l.options) l.word
