use Rattle.std.proofs.Common.{◌≡◌, ◌∙◌, ◌+◌, ◌++◌, ◌∷◌, [], ◌≤◌, ℕ, length, ap, sym, refl, arith}
use Rattle.duties.proofs.Orders.{each_hands_on, each_more, each_none}
use Rattle.lux_lines.specs.Walks.{all_tokens}
use Rattle.lm63_reader.specs.declared.faults.LmFault.TheVariants.{Memory}
use Rattle.lm63_reader.specs.Angles.{angle_at, angle_duty}
use Rattle.lm63_reader.proofs.Growing.{least_more, angles_more, no_angles, rising_above, below_push}
use Rattle.std.proofs.lemmas.List.{length_push}
use Rattle.std.proofs.lemmas.List.Elements.{All-push}
use Rattle.lm63_reader.proofs.lists.read_angles.Goals as goal

pub loop-at-init : goal.loop-at-init
loop-at-init c =
    let none = c.in_ok-angles.ensures.items in
    record {
      all = refl;
      read = omega arith;
      least = refl;
      low = omega arith;
      items = none ∙ sym (no_angles (all_tokens c.args.source.now) c.args.source.now.read);
      len = ap length none;
      below = rw none (λ k d inside. absurd (omega arith));
      rising = rw none (λ k inside. absurd (omega arith));
      limited = rw none (λ k d inside. absurd (omega arith));
      met = each_none _;
    }

pub returns-in_err-angle-clause-answer : goal.returns-in_err-angle-clause-answer
unfolding angle_duty
returns-in_err-angle-clause-answer c =
    let same = c.loop-at.invariant.all in
    let place = c.loop-at.invariant.read in
    each_hands_on Memory _ _ (angle_duty c.args.list c.args.most (all_tokens c.args.source.now) c.args.source.now.read) c.args.count c.loop-at.at c.loop-at-test.true
    c.loop-at.invariant.met c.from_residual-in_err-angle.ensures.1 (rw (same, place, c.loop-at.invariant.least) at c.in_err-angle.ensures.answer)

pub loop-at-preserved : goal.loop-at-preserved
unfolding angle_duty
loop-at-preserved c =
    let all = all_tokens c.args.source.now in
    let start = c.args.source.now.read in
    let same = c.loop-at.invariant.all in
    let place = c.loop-at.invariant.read in
    let here = c.in_ok-angle.ensures in
    let is : c.in_ok-angle.angle ≡ angle_at (all_tokens c.args.source.now) c.args.source.now.read c.loop-at.at = rw (same, place) at here.value in
    let items = c.in_ok-push.ensures.items in
    record {
      all = here.same ∙ same;
      read = omega (arith, here.next, place);
      least = ap (λ (a : ℕ). a + 1) is ∙ sym (least_more (all_tokens c.args.source.now) c.args.source.now.read c.loop-at.at);
      low = omega (arith, here.within.1);
      items = items ∙ ((λ k. c.loop-at.invariant.items k ++ (is k ∷ [])) ∙ sym (angles_more (all_tokens c.args.source.now) c.args.source.now.read c.loop-at.at));
      len = ap length items ∙ (length_push c.loop-at.angles.items c.in_ok-angle.angle ∙ ap (λ (n : ℕ). n + 1) c.loop-at.invariant.len);
      below = rw items (below_push c.loop-at.angles.items c.loop-at.least c.in_ok-angle.angle c.loop-at.invariant.below here.within.0);
      rising = rw items (rising_above c.loop-at.angles.items c.loop-at.least c.in_ok-angle.angle c.loop-at.invariant.rising c.loop-at.invariant.below here.within.0);
      limited = rw items (All-push (λ (a : ℕ). a ≤ c.args.most) c.loop-at.angles.items c.in_ok-angle.angle c.loop-at.invariant.limited here.within.1);
      met = each_more (angle_duty c.args.list c.args.most (all_tokens c.args.source.now) c.args.source.now.read) c.loop-at.at c.loop-at.invariant.met
          ∙ (rw (same, place, c.loop-at.invariant.least) at here.answer);
    }
