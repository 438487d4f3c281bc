use Rattle.std.proofs.Common.{◌≡◌, ℕ, length, sym, ap, ◌∙◌, arith}
use Rattle.duties.proofs.Orders.{each_none, each_more, each_fails}
use Rattle.duties.specs.Duties.{each}
use Rattle.photo_web.specs.Validity.{rise_duty, first_unfit}
use Rattle.photo_web.proofs.Tests.{angle_met, angle_falls, angle_past}
use Rattle.photo_web.proofs.checks.unfit_angle.Goals.{then-not-rises_at-via-then-not-rises_at, then-not-rises_at-via-else-not-rises_at+then-angle-most}
use Rattle.photo_web.proofs.checks.unfit_angle.Goals as goal

pub loop-at-init : goal.loop-at-init
loop-at-init c = each_none _

pub returns-then-not-rises_at : goal.returns-then-not-rises_at
unfolding first_unfit
returns-then-not-rises_at c =
    sym (each_fails (rise_duty c.args.most c.args.angles.now) _ c.loop-at.at _ c.loop-at-test.true c.loop-at.invariant (elim c.then-not-rises_at.branch [
      | then-not-rises_at-via-then-not-rises_at w ↦ angle_falls _ _ _ (sym c.rises_at.ensures ∙ w.if-not-rises_at.true)
      | then-not-rises_at-via-else-not-rises_at+then-angle-most w ↦ angle_past _ _ _ w.if-angle-most.true
    ]))

pub loop-at-preserved : goal.loop-at-preserved
loop-at-preserved c =
    each_more (rise_duty c.args.most c.args.angles.now) c.loop-at.at c.loop-at.invariant
    ∙ angle_met c.args.most c.args.angles.now c.loop-at.at (sym c.rises_at.ensures ∙ c.if-not-rises_at.false) c.if-angle-most.false

pub returns : goal.returns
unfolding first_unfit
returns c =
    let all : c.loop-at.at ≡ length c.args.angles.now = omega arith in
    sym (ap (λ (n : ℕ). each n (rise_duty c.args.most c.args.angles.now)) (sym all) ∙ c.loop-at.invariant)
