use Rattle.std.proofs.Common.{◌∙◌, sym}
use Rattle.std.proofs.lemmas.List.{take_rest}
use Rattle.lux_lines.proofs.Parts.{words_more, words_last}
use Rattle.lux_lines.proofs.words.Words.next.Goals as goal

pub returns-in-Some : goal.returns-in-Some
returns-in-Some c =
    let rest = c.in_ok-rest.rest.now in
    rw (← c.self.view_is, c.in_ok-rest.was, take_rest) (words_more rest c.in-Some.len (sym c.first_blank.ensures ∙ c.in-Some.is))

pub returns-in-None : goal.returns-in-None
returns-in-None c =
    rw (← c.self.view_is, c.in_ok-rest.was) (words_last c.in_ok-rest.rest.now (sym c.first_blank.ensures ∙ c.in-None.is))
