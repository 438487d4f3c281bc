use Rattle.std.proofs.Common.{◌≡◌, ◌∙◌, ◌+◌, ◌++◌, ◌∷◌, [], ◌≤◌, ℕ, List, true, false, length, ap, sym, refl, arith}
use Rattle.duties.proofs.Orders.{each_hands_on, each_more, each_none}
use Rattle.std.proofs.lemmas.List.{length_push}
use Rattle.std.proofs.lemmas.List.Elements.{All-push}
use Rattle.eulumdat_reader.specs.declared.faults.LdtFault.TheVariants.{Memory}
use Rattle.eulumdat_reader.specs.Rows.{all_lines}
use Rattle.eulumdat_reader.specs.Planes.{is_outside}
use Rattle.eulumdat_reader.specs.Angles.{angle_at, angle_duty, least_behind}
use Rattle.eulumdat_reader.proofs.Growing.{angles_more, angles_stay, duty_outside, duty_inside, no_angles, rising_behind, count_outside, count_inside}
use Rattle.eulumdat_reader.proofs.lists.read_angles.Goals as goal

pub loop-at-init : goal.loop-at-init
loop-at-init c =
    let none = c.in_ok-angles.ensures.items in
    let no_items = ap length none in
    record {
      text = refl;
      read = omega arith;
      items = none ∙ sym (no_angles c.args.unread (all_lines c.args.source.now) (c.args.source.now.read + 1));
      len = omega (arith, no_items);
      rising = rw none (λ k inside. absurd (omega arith));
      limited = rw none (λ k d inside. absurd (omega arith));
      met = each_none _;
    }

pub returns-in_err-row-clause-answer : goal.returns-in_err-row-clause-answer
returns-in_err-row-clause-answer c =
    let inside : is_outside c.args.unread c.loop-at.at ≡ false = sym c.is_outside.ensures ∙ c.if-not-is_outside.true in
    let place : c.loop-at.source.read + 1 ≡ c.args.source.now.read + 1 + c.loop-at.at = omega (arith, c.loop-at.invariant.read) in
    let duty = duty_inside c.args.unread (all_lines c.args.source.now) (c.args.source.now.read + 1) c.loop-at.at c.args.list c.args.most inside in
    each_hands_on Memory _ _ (angle_duty c.args.list c.args.most c.args.unread (all_lines c.args.source.now) (c.args.source.now.read + 1)) c.args.count c.loop-at.at c.loop-at-test.true
    c.loop-at.invariant.met c.from_residual-in_err-row.ensures.1 (rw duty (rw (c.loop-at.invariant.text, place) at c.in_err-row.ensures.answer))

pub loop-at-preserved-then-not-is_outside : goal.loop-at-preserved-then-not-is_outside
loop-at-preserved-then-not-is_outside c =
    let inside : is_outside c.args.unread c.loop-at.at ≡ false = sym c.is_outside.ensures ∙ c.if-not-is_outside.true in
    let place : c.loop-at.source.read + 1 ≡ c.args.source.now.read + 1 + c.loop-at.at = omega (arith, c.loop-at.invariant.read) in
    let duty = duty_inside c.args.unread (all_lines c.args.source.now) (c.args.source.now.read + 1) c.loop-at.at c.args.list c.args.most inside in
    let here = c.in_ok-row.ensures in
    record {
      text = here.same ∙ c.loop-at.invariant.text;
      read = omega (arith, here.next, c.loop-at.invariant.read);
      items = c.loop-at.invariant.items ∙ sym (angles_stay c.args.unread (all_lines c.args.source.now) (c.args.source.now.read + 1) c.loop-at.at inside);
      len = count_inside c.args.unread c.loop-at.at (length c.loop-at.angles.items) inside c.loop-at.invariant.len;
      rising = c.loop-at.invariant.rising;
      limited = c.loop-at.invariant.limited;
      met = each_more (angle_duty c.args.list c.args.most c.args.unread (all_lines c.args.source.now) (c.args.source.now.read + 1)) c.loop-at.at c.loop-at.invariant.met
          ∙ (rw duty (rw (c.loop-at.invariant.text, place) at here.answer));
    }

pub returns-in_err-read_angle-clause-answer : goal.returns-in_err-read_angle-clause-answer
returns-in_err-read_angle-clause-answer c =
    let outside : is_outside c.args.unread c.loop-at.at ≡ true = sym c.is_outside.ensures ∙ c.if-not-is_outside.false in
    let place : c.loop-at.source.read + 1 ≡ c.args.source.now.read + 1 + c.loop-at.at = omega (arith, c.loop-at.invariant.read) in
    let duty = duty_outside c.args.unread (all_lines c.args.source.now) (c.args.source.now.read + 1) c.loop-at.at c.args.list c.args.most outside in
    each_hands_on Memory _ _ (angle_duty c.args.list c.args.most c.args.unread (all_lines c.args.source.now) (c.args.source.now.read + 1)) c.args.count c.loop-at.at c.loop-at-test.true
    c.loop-at.invariant.met c.from_residual-in_err-read_angle.ensures.1 (rw (duty, ← c.loop-at.invariant.items) (rw (c.loop-at.invariant.text, place) at c.in_err-read_angle.ensures.answer))

pub loop-at-preserved : goal.loop-at-preserved
loop-at-preserved c =
    let outside : is_outside c.args.unread c.loop-at.at ≡ true = sym c.is_outside.ensures ∙ c.if-not-is_outside.false in
    let place : c.loop-at.source.read + 1 ≡ c.args.source.now.read + 1 + c.loop-at.at = omega (arith, c.loop-at.invariant.read) in
    let duty = duty_outside c.args.unread (all_lines c.args.source.now) (c.args.source.now.read + 1) c.loop-at.at c.args.list c.args.most outside in
    let here = c.in_ok-read_angle.ensures in
    let items : c.read_angle.new.angles.items ≡ c.loop-at.angles.items ++ angle_at (all_lines c.args.source.now) (c.args.source.now.read + 1) c.loop-at.at ∷ [] = rw (c.loop-at.invariant.text, place) at here.value in
    let least : least_behind c.loop-at.angles.items ≤ angle_at (all_lines c.args.source.now) (c.args.source.now.read + 1) c.loop-at.at = rw (c.loop-at.invariant.text, place) at here.least in
    let most : angle_at (all_lines c.args.source.now) (c.args.source.now.read + 1) c.loop-at.at ≤ c.args.most = rw (c.loop-at.invariant.text, place) at here.most in
    record {
      text = here.same ∙ c.loop-at.invariant.text;
      read = omega (arith, here.next, c.loop-at.invariant.read);
      items = items ∙ (ap (λ (r : List ℕ). r ++ angle_at (all_lines c.args.source.now) (c.args.source.now.read + 1) c.loop-at.at ∷ []) c.loop-at.invariant.items
          ∙ sym (angles_more c.args.unread (all_lines c.args.source.now) (c.args.source.now.read + 1) c.loop-at.at outside));
      len = rw (ap length items ∙ length_push c.loop-at.angles.items _) (count_outside c.args.unread c.loop-at.at (length c.loop-at.angles.items) c.requires.forth outside c.loop-at.invariant.len);
      rising = rw items (rising_behind c.loop-at.angles.items _ c.loop-at.invariant.rising least);
      limited = rw items (All-push (λ (a : ℕ). a ≤ c.args.most) c.loop-at.angles.items _ c.loop-at.invariant.limited most);
      met = each_more (angle_duty c.args.list c.args.most c.args.unread (all_lines c.args.source.now) (c.args.source.now.read + 1)) c.loop-at.at c.loop-at.invariant.met
          ∙ (rw (duty, ← c.loop-at.invariant.items) (rw (c.loop-at.invariant.text, place) at here.answer));
    }
