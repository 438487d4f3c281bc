use Rattle.std.proofs.Common.{◌≡◌, ◌∙◌, ◌+◌, ℕ, refl, arith}
use Rattle.duties.proofs.Orders.{each_hands_on, each_more, each_none}
use Rattle.lux_lines.specs.Walks.{all_tokens}
use Rattle.lm63_reader.specs.declared.faults.LmFault.TheVariants.{Memory}
use Rattle.lm63_reader.specs.Fields.{number_duty, any_numbers}
use Rattle.lm63_reader.proofs.fields.skip_numbers.Goals as goal

pub loop-i-init : goal.loop-i-init
loop-i-init c = record { all = refl; read = omega arith; met = each_none _ }

pub returns-in_err-read_number-clause-answer : goal.returns-in_err-read_number-clause-answer
unfolding any_numbers
returns-in_err-read_number-clause-answer c =
    let same = c.loop-i.invariant.all in
    let place = c.loop-i.invariant.read in
    each_hands_on Memory _ _ (λ (i : ℕ). number_duty (all_tokens c.args.source.now) (c.args.source.now.read + i)) c.args.count c.loop-i._i c.loop-i-test.true
    c.loop-i.invariant.met c.from_residual.ensures.1 (rw (same, place) at c.in_err-read_number.ensures.answer)

pub loop-i-preserved : goal.loop-i-preserved
loop-i-preserved c =
    let same = c.loop-i.invariant.all in
    let place = c.loop-i.invariant.read in
    let here = c.in_ok-read_number.ensures in
    record {
      all = here.same ∙ same;
      read = omega (arith, here.next, place);
      met = each_more (λ (i : ℕ). number_duty (all_tokens c.args.source.now) (c.args.source.now.read + i)) c.loop-i._i c.loop-i.invariant.met
          ∙ (rw (same, place) at here.answer);
    }

pub returns-clause-answer : goal.returns-clause-answer
unfolding any_numbers
returns-clause-answer c =
    let end : c.loop-i._i ≡ c.args.count = omega arith in
    rw (← end) c.loop-i.invariant.met
