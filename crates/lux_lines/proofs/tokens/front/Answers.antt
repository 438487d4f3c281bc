use Rattle.std.proofs.Common.{ap, sym, ◌∙◌, drop}
use Rattle.std.specs.Prelude.{position}
use Rattle.std.proofs.lemmas.List.{take_rest}
use Rattle.lux_lines.specs.Tokens.{is_separator}
use Rattle.lux_lines.proofs.Steps.{position_none_len}
use Rattle.lux_lines.proofs.tokens.front.Goals as goal

pub returns-in-None-clause-len : goal.returns-in-None-clause-len
returns-in-None-clause-len c =
    rw (take_rest c.args.text.now c.args.at)
    (position_none_len is_separator (drop c.args.at c.args.text.now) (ap (position is_separator) (sym (take_rest c.args.text.now c.args.at)) ∙ (sym c.first_separator.ensures ∙ c.in-None.is)))
