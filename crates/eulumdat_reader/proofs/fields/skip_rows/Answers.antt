use Rattle.std.proofs.Common.{◌≡◌, ◌∙◌, ◌+◌, ℕ, refl, arith}
use Rattle.duties.proofs.Orders.{each_hands_on, each_more, each_none}
use Rattle.eulumdat_reader.specs.declared.faults.LdtFault.TheVariants.{Memory}
use Rattle.eulumdat_reader.specs.Rows.{all_lines, presence_duty, any_rows}
use Rattle.eulumdat_reader.proofs.fields.skip_rows.Goals as goal

pub loop-i-init : goal.loop-i-init
loop-i-init c = record { text = refl; read = omega arith; met = each_none _ }

pub returns-in_err-row-clause-answer : goal.returns-in_err-row-clause-answer
unfolding any_rows
returns-in_err-row-clause-answer c =
    let place : c.loop-i.source.read + 1 ≡ c.args.source.now.read + 1 + c.loop-i._i = omega (arith, c.loop-i.invariant.read) in
    each_hands_on Memory _ _ (λ (i : ℕ). presence_duty (all_lines c.args.source.now) (c.args.source.now.read + 1 + i)) c.args.count c.loop-i._i c.loop-i-test.true
    c.loop-i.invariant.met c.from_residual.ensures.1 (rw (c.loop-i.invariant.text, place) at c.in_err-row.ensures.answer)

pub loop-i-preserved : goal.loop-i-preserved
loop-i-preserved c =
    let place : c.loop-i.source.read + 1 ≡ c.args.source.now.read + 1 + c.loop-i._i = omega (arith, c.loop-i.invariant.read) in
    let here = c.in_ok-row.ensures in
    record {
      text = here.same ∙ c.loop-i.invariant.text;
      read = omega (arith, here.next, c.loop-i.invariant.read);
      met = each_more (λ (i : ℕ). presence_duty (all_lines c.args.source.now) (c.args.source.now.read + 1 + i)) c.loop-i._i c.loop-i.invariant.met
          ∙ (rw (c.loop-i.invariant.text, place) at here.answer);
    }

pub returns-clause-answer : goal.returns-clause-answer
unfolding any_rows
returns-clause-answer c =
    let end : c.loop-i._i ≡ c.args.count = omega arith in
    rw (← end) c.loop-i.invariant.met
