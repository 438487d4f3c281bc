use Rattle.std.proofs.Common.{◌≡◌, ◌∙◌, Option, Some, ℕ, length, sym, ap}
use Rattle.lux_lines.specs.Walks.{all_tokens}
use Rattle.lux_lines.specs.TokenPieces.{token_piece}
use Rattle.lm63_reader.specs.declared.faults.LmFault.{LmFault}
use Rattle.lm63_reader.specs.declared.faults.LmFault.TheVariants.{Short}
use Rattle.lm63_reader.proofs.Walking.{number_duty_none, number_duty_some}
use Rattle.lm63_reader.proofs.fields.read_number.Goals as goal

pub returns-in-Some-clause-answer : goal.returns-in-Some-clause-answer
returns-in-Some-clause-answer c =
    let is = number_duty_some (all_tokens c.args.source.now) c.args.source.now.read (token_piece c.in-Some.token) (sym c.in-Some.ensures.token) in
    rw is.0 c.number_of.ensures.answer

pub returns-in-Some-clause-value : goal.returns-in-Some-clause-value
returns-in-Some-clause-value c =
    let is = number_duty_some (all_tokens c.args.source.now) c.args.source.now.read (token_piece c.in-Some.token) (sym c.in-Some.ensures.token) in
    rw is.1 c.number_of.ensures.value

pub returns-in-None-clause-answer : goal.returns-in-None-clause-answer
returns-in-None-clause-answer c = λ _.
    let count : c.count.result ≡ length (all_tokens c.args.source.now) = c.count.ensures ∙ (c.in-None.ensures.end ∙ c.in-None.ensures.all) in
    number_duty_none (all_tokens c.args.source.now) c.args.source.now.read (sym c.in-None.ensures.token) ∙ ap (λ (n : ℕ). let d : Option LmFault = Some (Short n) in d) (sym count)
