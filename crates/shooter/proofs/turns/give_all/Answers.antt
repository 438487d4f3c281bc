use Rattle.std.proofs.Common.{ℕ, ◌<◌, List, length, sym, ap, subst, ◌∙◌, arith, length-set}
use Rattle.flux_system.specs.System.{patches}
use Rattle.flux_accounts.specs.Banks.{SeatFacts}
use Rattle.shooter.specs.Layouts.{IsGiving}
use Rattle.shooter.proofs.Giving.{more_gives, gone_given, gone_already}
use Rattle.shooter.proofs.turns.give_all.Goals.{in-Some, in_default}
use Rattle.shooter.proofs.turns.give_all.Goals as goal

pub loop-target-preserved : goal.loop-target-preserved
loop-target-preserved c =
    let i = c.loop-target.invariant in
    let n : ℕ = patches c.args.system.now in
    let threshold : ℕ = c.args.system.now.threshold in
    let target : ℕ = c.loop-target.target in
    let end = c.len-target-end.ensures.value in
    let test = c.loop-target-test.true in
    let inside : target < n = omega arith in
    elim c.match-give.branch [
      | in-Some w ↦ (
          let value : ℕ = w.in-Some.given.after in
          let set_is = w.remembered-is ∙ w.set.ensures in
          record {
            of = w.in-Some.ensures.of;
            gives = subst (IsGiving n threshold c.args.seat.now c.args.remembered.now c.give.new.seat) (sym set_is)
                (more_gives n threshold c.args.seat.now c.args.remembered.now c.loop-target.seat c.loop-target.remembered target value c.give.new.seat inside w.in-Some.ensures.step i.gives);
            long = ap length set_is ∙ (length-set c.loop-target.remembered target value ∙ i.long);
            gone = gone_given c.loop-target.seat c.give.new.seat target i.gone value w.in-Some.ensures.step;
          })
      | in_default w ↦ (
          let none = w.in_default.ensures.none in
          record {
            of = w.in_default.ensures.of;
            gives = subst (λ (z : SeatFacts × List ℕ). IsGiving n threshold c.args.seat.now c.args.remembered.now z.0 z.1) (λ k. (sym none.1 k, sym w.remembered-is k)) i.gives;
            long = ap length w.remembered-is ∙ i.long;
            gone = gone_already c.loop-target.seat c.give.new.seat target i.gone none.0 none.1;
          })
    ]
