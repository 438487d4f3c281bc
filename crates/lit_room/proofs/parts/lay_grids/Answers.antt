use Rattle.std.proofs.Common.{◌≡◌, ℕ, ◌++◌, ◌∷◌, [], Some, length, sym, ap, ◌∙◌, arith}
use Rattle.std.proofs.lemmas.List.{map_more}
use Rattle.std.proofs.lemmas.Option.{slice_get-get_or}
use Rattle.duties.specs.Duties.{each}
use Rattle.duties.proofs.Orders.{each_none, each_more, each_hands_on}
use Rattle.std.specs.Prelude.{slice_get}
use Rattle.grids.specs.Grids.{grid_of}
use Rattle.lit_room.specs.declared.faults.LightFault.TheVariants.{Memory}
use Rattle.lit_room.specs.LitRooms.{check_duty, checks_duty}
use Rattle.lit_room.proofs.Lighting.{duty_at}
use Rattle.lit_room.proofs.parts.lay_grids.Goals as goal

pub loop-at-init : goal.loop-at-init
loop-at-init c = record { grids = c.in_ok-grids.ensures.items; met = each_none _ }

pub loop-at-preserved : goal.loop-at-preserved
loop-at-preserved c =
    let here : slice_get c.args.checks.now c.loop-at.at ≡ Some c.index-checks-at.result = rw (← c.index-checks-at.is) at (slice_get-get_or c.args.checks.now c.loop-at.at c.index-checks-at.result c.loop-at-test.true) in
    record {
      grids = c.in_ok-push.ensures.items
          ∙ ((λ k. c.loop-at.invariant.grids k ++ c.in_ok-lay_grid.ensures.grid k ∷ []) ∙ sym (rw (← c.index-checks-at.is) at (map_more (grid_of c.args.room.now.spec) c.args.checks.now c.loop-at.at c.index-checks-at.result c.loop-at-test.true)));
      met = each_more (check_duty c.args.room.now.spec c.args.checks.now) c.loop-at.at c.loop-at.invariant.met
          ∙ (duty_at c.args.room.now.spec c.args.checks.now c.loop-at.at _ here ∙ c.in_ok-lay_grid.ensures.answer);
    }

pub returns-in_err-lay_grid-clause-answer : goal.returns-in_err-lay_grid-clause-answer
unfolding checks_duty
returns-in_err-lay_grid-clause-answer c =
    let here : slice_get c.args.checks.now c.loop-at.at ≡ Some c.index-checks-at.result = rw (← c.index-checks-at.is) at (slice_get-get_or c.args.checks.now c.loop-at.at c.index-checks-at.result c.loop-at-test.true) in
    each_hands_on Memory _ _ (check_duty c.args.room.now.spec c.args.checks.now) (length c.args.checks.now) c.loop-at.at c.loop-at-test.true c.loop-at.invariant.met c.from_residual-in_err-lay_grid.ensures.1
    (λ ne. duty_at c.args.room.now.spec c.args.checks.now c.loop-at.at _ here ∙ c.in_err-lay_grid.ensures.answer ne)

pub returns-clause-answer : goal.returns-clause-answer
unfolding checks_duty
returns-clause-answer c =
    let all : c.loop-at.at ≡ length c.args.checks.now = omega arith in
    ap (λ (n : ℕ). each n (check_duty c.args.room.now.spec c.args.checks.now)) (sym all) ∙ c.loop-at.invariant.met
