use Rattle.std.proofs.Common.{◌≡◌, ◌∙◌, false, sym, ap}
use Rattle.duties.proofs.Orders.{hands_on, this_met, this_fails, unless_fails}
use Rattle.lux_lines.specs.Walks.{all_tokens}
use Rattle.lm63_reader.specs.declared.faults.LmFault.TheVariants.{Memory}
use Rattle.photo_numbers.specs.Numbers.{is_whole_within}
use Rattle.lm63_reader.specs.Fields.{field, number_at}
use Rattle.lm63_reader.proofs.fields.read_whole.Goals as goal

pub returns-in_err-number-clause-answer : goal.returns-in_err-number-clause-answer
unfolding field
returns-in_err-number-clause-answer c = hands_on Memory _ _ _ _ c.from_residual.ensures.1 c.in_err-number.ensures.answer (this_fails _ _ _)

pub returns-in-None-clause-answer : goal.returns-in-None-clause-answer
unfolding field
returns-in-None-clause-answer c = λ _.
    let test : is_whole_within c.args.low c.args.high (number_at (all_tokens c.args.source.now) c.args.source.now.read) ≡ false =
    ap (is_whole_within c.args.low c.args.high) (sym c.in_ok-number.ensures.value) ∙ sym c.in-None.ensures.exactly in
    this_met _ _ c.in_ok-number.ensures.answer ∙ this_fails _ _ _ (unless_fails _ _ test)
