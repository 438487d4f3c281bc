use Rattle.std.proofs.Common.{◌≡◌, ◌∙◌, ◌∷◌, sym}
use Rattle.lux_lines.specs.Words.{words}
use Rattle.system_file.proofs.Reading.{numbers_at}
use Rattle.system_file.proofs.rows.read_numbers.Goals as goal

pub returns-in-Some-clause-value : goal.returns-in-Some-clause-value
returns-in-Some-clause-value c =
    let is : words c.args.line.now ≡ c.in-Some.word.now ∷ c.next.new.self = sym c.new-words.ensures ∙ c.in-Some.ensures in
    rw (numbers_at c.args.line.now c.in-Some.word.now c.next.new.self is) c.read_numerals.ensures.value
