use Rattle.std.proofs.Common.{◌≡◌, ◌∙◌, ◌+◌, ◌++◌, ◌∷◌, [], ◌≤◌, ◌^◌, ℕ, length, ap, sym, refl, arith}
use Rattle.duties.proofs.Orders.{each_hands_on, each_more, each_none}
use Rattle.eulumdat_reader.specs.declared.faults.LdtFault.TheVariants.{Memory}
use Rattle.photo_numbers.specs.Intensities.{intensity_of}
use Rattle.eulumdat_reader.specs.Intensities.{value_duty}
use Rattle.eulumdat_reader.specs.Rows.{all_lines, number_at}
use Rattle.std.proofs.lemmas.List.{length_push}
use Rattle.std.proofs.lemmas.List.Elements.{All-push}
use Rattle.eulumdat_reader.proofs.Growing.{intensities_more, no_intensities}
use Rattle.eulumdat_reader.proofs.lists.read_values.Goals as goal

pub loop-at-init : goal.loop-at-init
loop-at-init c =
    let none = c.in_ok-values.ensures.items in
    record {
      text = refl;
      read = omega arith;
      items = none ∙ sym (no_intensities c.args.scale (all_lines c.args.source.now) (c.args.source.now.read + 1));
      len = ap length none;
      limited = rw none (λ k d inside. absurd (omega arith));
      met = each_none _;
    }

pub returns-in_err-value-clause-answer : goal.returns-in_err-value-clause-answer
unfolding value_duty
returns-in_err-value-clause-answer c =
    let place : c.loop-at.source.read + 1 ≡ c.args.source.now.read + 1 + c.loop-at.at = omega (arith, c.loop-at.invariant.read) in
    each_hands_on Memory _ _ (value_duty c.args.scale (all_lines c.args.source.now) (c.args.source.now.read + 1)) c.args.count c.loop-at.at c.loop-at-test.true
    c.loop-at.invariant.met c.from_residual-in_err-value.ensures.1 (rw (c.loop-at.invariant.text, place) at c.in_err-value.ensures.answer)

pub loop-at-preserved : goal.loop-at-preserved
unfolding value_duty
loop-at-preserved c =
    let same = c.loop-at.invariant.text in
    let place : c.loop-at.source.read + 1 ≡ c.args.source.now.read + 1 + c.loop-at.at = omega (arith, c.loop-at.invariant.read) in
    let here = c.in_ok-value.ensures in
    let is : c.in_ok-value.value ≡ intensity_of (10 ^ 12) c.args.scale (number_at (all_lines c.args.source.now) (c.args.source.now.read + 1 + c.loop-at.at)) = rw (same, place) at here.value in
    let items = c.in_ok-push.ensures.items in
    record {
      text = here.same ∙ same;
      read = omega (arith, here.next, c.loop-at.invariant.read);
      items = items ∙ ((λ k. c.loop-at.invariant.items k ++ (is k ∷ [])) ∙ sym (intensities_more c.args.scale (all_lines c.args.source.now) (c.args.source.now.read + 1) c.loop-at.at));
      len = ap length items ∙ (length_push c.loop-at.values.items c.in_ok-value.value ∙ ap (λ (n : ℕ). n + 1) c.loop-at.invariant.len);
      limited = rw items (All-push (λ (v : ℕ). v ≤ 10 ^ 15) c.loop-at.values.items c.in_ok-value.value c.loop-at.invariant.limited here.limited);
      met = each_more (value_duty c.args.scale (all_lines c.args.source.now) (c.args.source.now.read + 1)) c.loop-at.at c.loop-at.invariant.met
          ∙ (rw (same, place) at here.answer);
    }
