use Rattle.std.proofs.Common.{◌≡◌, ◌∙◌, ◌+◌, ◌*◌, arith}
use Rattle.duties.proofs.Orders.{hands_on, last_decides, this_met, this_fails}
use Rattle.lux_lines.specs.Walks.{all_tokens}
use Rattle.lm63_reader.specs.declared.faults.LmFault.TheVariants.{Memory}
use Rattle.photo_numbers.specs.Numbers.{count_of}
use Rattle.lm63_reader.specs.Fields.{any_numbers, number_at}
use Rattle.lm63_reader.specs.Heads.{tilt_duties}
use Rattle.lm63_reader.proofs.head.skip_pairs.Goals as goal

pub returns-in_err-skip_numbers-clause-answer : goal.returns-in_err-skip_numbers-clause-answer
unfolding tilt_duties
returns-in_err-skip_numbers-clause-answer c = hands_on Memory _ _ _ _ c.from_residual.ensures.1 c.in_err-skip_numbers.ensures.answer (λ h. this_fails _ _ _ h)

pub returns-in_err-pairs-clause-answer : goal.returns-in_err-pairs-clause-answer
unfolding tilt_duties
returns-in_err-pairs-clause-answer c =
    let a = c.in_ok-skip_numbers.ensures in
    hands_on Memory _ _ _ _ c.from_residual-in_err-pairs.ensures.1 (rw (a.same, a.next) at c.in_err-pairs.ensures.answer)
    (λ h. this_met _ _ a.answer ∙ this_fails _ _ _ h)

pub returns-clause-answer : goal.returns-clause-answer
unfolding tilt_duties
returns-clause-answer c =
    let a = c.in_ok-skip_numbers.ensures in
    let b = c.in_ok-pairs.ensures in
    let all = all_tokens c.args.source.now in
    let pairs : c.in_ok-pairs.pairs ≡ count_of (number_at (all_tokens c.args.source.now) (c.args.source.now.read + 1)) = rw (a.same, a.next) at b.value in
    let second : c.read_whole.new.source.read ≡ c.args.source.now.read + 2 = omega (arith, a.next, b.next) in
    let decides = this_met _ _ a.answer ∙ (this_met _ _ (rw (a.same, a.next) at b.answer)
    ∙ last_decides (any_numbers (all_tokens c.args.source.now) (c.args.source.now.read + 2) (2 * count_of (number_at (all_tokens c.args.source.now) (c.args.source.now.read + 1))))) in
    rw decides (rw (b.same ∙ a.same, second, pairs) at c.skip_numbers-2.ensures.answer)
