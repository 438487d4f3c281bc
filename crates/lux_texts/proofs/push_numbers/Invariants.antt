use Rattle.std.proofs.Common.{◌≡◌, ◌++◌, take}
use Rattle.std.specs.List.{flat_map}
use Rattle.lux_texts.proofs.push_numbers.Given as goal

-- the text before, and the numbers so far
abbrev pub invariant-loop-number : goal.invariant-loop-number
invariant-loop-number g l = l.text.items ≡ l.initial.text.items ++ flat_map (λ number. l.before ++ g.N.Integer.text number) (take l.number-index l.numbers)
