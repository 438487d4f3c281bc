use Rattle.std.proofs.Common.{ℕ, List, ap, sym, string_bytes}
use Rattle.std.proofs.lemmas.List.{take-map}
use Rattle.lux_words.specs.Words.{is_among}
use Rattle.lux_words.proofs.words.stands_before.Goals as goal

pub loop-other-init : goal.loop-other-init
loop-other-init c = ap (λ (words : List (List ℕ)). is_among words c.args.word.now) (sym (take-map string_bytes c.args.place c.args.words.now))
