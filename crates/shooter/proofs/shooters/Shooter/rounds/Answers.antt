use Rattle.std.proofs.Common.{refl}
use Rattle.shooter.specs.Shooters.{ShooterFacts}
use Rattle.shooter.proofs.Rounds.{first_round, next_round}
use Rattle.shooter.proofs.shooters.Shooter.rounds.Goals as goal

pub loop-last-init : goal.loop-last-init
loop-last-init g c =
    let old : ShooterFacts = record { seat = c.args.self.now.seat; remembered = c.args.self.now.remembered; cursor = c.args.self.now.cursor } in
    let new : ShooterFacts = record { seat = c.pass-sums.new.self.seat; remembered = c.pass-sums.new.self.remembered; cursor = c.pass-sums.new.self.cursor } in
    record { of = c.pass-sums.ensures.of; rounds = first_round c.args.system.now old c.pass-sums.result new c.pass-sums.ensures.pass }

pub loop-last-preserved : goal.loop-last-preserved
loop-last-preserved g c =
    let old : ShooterFacts = record { seat = c.args.self.now.seat; remembered = c.args.self.now.remembered; cursor = c.args.self.now.cursor } in
    let between : ShooterFacts = record { seat = c.loop-last.self.seat; remembered = c.loop-last.self.remembered; cursor = c.loop-last.self.cursor } in
    let new : ShooterFacts = record { seat = c.pass-report.new.self.seat; remembered = c.pass-report.new.self.remembered; cursor = c.pass-report.new.self.cursor } in
    record {
      of = c.pass-report.ensures.of;
      rounds = next_round c.args.system.now old c.loop-last.sums c.loop-last.last between c.pass-report.result new _ c.loop-last.invariant.rounds c.loop-last-test.true c.if-sums-lt-MOST_PASSES.true c.pass-report.ensures.pass refl;
    }
