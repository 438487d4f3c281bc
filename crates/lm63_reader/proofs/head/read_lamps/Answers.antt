use Rattle.std.proofs.Common.{◌∙◌, ◌+◌}
use Rattle.duties.proofs.Orders.{hands_on, last_decides, this_met, this_fails}
use Rattle.lm63_reader.specs.declared.faults.LmFault.TheVariants.{Memory, Factor}
use Rattle.duties.specs.Duties.{unless}
use Rattle.lux_lines.specs.Walks.{all_tokens}
use Rattle.lux_num.specs.Scaled.{is_limited}
use Rattle.lm63_reader.specs.Fields.{field}
use Rattle.lm63_reader.specs.Heads.{lamp_duties}
use Rattle.lm63_reader.proofs.head.read_lamps.Goals as goal

pub returns-in_err-skip_numbers-clause-answer : goal.returns-in_err-skip_numbers-clause-answer
unfolding lamp_duties
returns-in_err-skip_numbers-clause-answer c = hands_on Memory _ _ _ _ c.from_residual.ensures.1 c.in_err-skip_numbers.ensures.answer (λ h. this_fails _ _ _ h)

pub returns-clause-answer : goal.returns-clause-answer
unfolding lamp_duties
returns-clause-answer c =
    let a = c.in_ok-skip_numbers.ensures in
    let decides = this_met _ _ a.answer ∙ last_decides (field (all_tokens c.args.source.now) (c.args.source.now.read + 2) (λ x. unless (is_limited 100000 x) (Factor 3))) in
    rw decides (rw (a.same, a.next) at c.read_factor.ensures.answer)
