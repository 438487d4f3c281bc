use Rattle.std.proofs.Common.{◌≡◌, ◌⊎◌, ℕ, ◌+◌, ◌%◌, inl, inr, List, length, refl, sym, ap, subst, ◌∙◌, arith, length-set}
use Rattle.flux_system.specs.System.{FluxSystem, patches}
use Rattle.flux_accounts.specs.Banks.{SeatFacts, IsSeatOf}
use Rattle.shooter.specs.declared.reports.PassReport.{PassReport}
use Rattle.picker.specs.Picks.{IsPick}
use Rattle.shooter.specs.Rules.{group}
use Rattle.shooter.specs.Shooters.{IsPass}
use Rattle.shooter.specs.Layouts.{value_left}
use Rattle.shooter.proofs.Passing.{won_of, low_of, lost_of}
use Rattle.shooter.proofs.SoFar.{PassSoFar, no_turns, now, one_turn, then_gives, whole_pass}
use Rattle.shooter.proofs.Choosing.{is_next, next_inside}
use Rattle.shooter.proofs.Counts.{counts_won, counts_low, counts_lost, group_done}
use Rattle.shooter.proofs.passes.make_turns.Goals.{in-Won, in-Low, in-Lost, then-turn-eq0, then-turn-eq0-via-then-turn-eq0, then-turn-eq0-via-else-turn-eq0+then-turn-n, else-turn-eq0+else-turn-n}
use Rattle.shooter.proofs.passes.make_turns.Goals as goal

pub loop-turn-init : goal.loop-turn-init
loop-turn-init g c = record {
  of = c.requires.seat;
  long = c.requires.lengths;
  done = no_turns c.args.system.now c.args.cursor c.args.seat.now c.args.remembered.now c.requires.cursor;
  passes = refl;
  groups = λ _. c.requires.empty;
  ends = λ _. c.requires.empty;
}

pub loop-turn-preserved : goal.loop-turn-preserved
loop-turn-preserved g c =
    let s : FluxSystem = c.args.system.now in
    let cursor : ℕ = c.args.cursor in
    let old : SeatFacts = c.args.seat.now in
    let old_remembered : List ℕ = c.args.remembered.now in
    let i = c.loop-turn.invariant in
    let turn : ℕ = c.loop-turn.turn in
    let seat : SeatFacts = c.loop-turn.seat in
    let remembered : List ℕ = c.loop-turn.remembered in
    let report : PassReport = c.loop-turn.report in
    let patch : ℕ = c.unwrap_or-patch.result in
    let answer = c.take.result in
    let n = c.len-n.ensures.value in
    let test = c.loop-turn-test.true in
    let some = c.len-n.ensures.system.some in
    let m = now s cursor old old_remembered seat remembered c.loop-turn.at turn report.won report.low report.lost i.done in
    let pick : IsPick remembered s.threshold c.pick-choice.result = subst (λ (z : List ℕ × ℕ). IsPick z.0 z.1 c.pick-choice.result) (λ k. (c.as_slice.ensures k, c.threshold.ensures k)) c.pick-choice.ensures.pick in
    let inside = next_inside s cursor m c.loop-turn.at i.done.at_cursor i.long some c.pick-choice.result patch pick c.unwrap_or-patch.ensures in
    let next = is_next s cursor m c.loop-turn.at i.done.at_cursor i.long c.pick-choice.result patch pick c.unwrap_or-patch.ensures in
    let system = ap patches (i.of.system ∙ sym c.requires.system) in
    let turned = one_turn s cursor old old_remembered seat remembered c.loop-turn.at turn report.won report.low report.lost i.done patch answer c.take.new.seat c.take.ensures.steps (omega arith) inside next
    (λ e j h. i.groups e j (omega arith)) c.take.ensures.number (c.take.ensures.of.table ∙ sym i.of.table) in
    let counts : (c.match-take.report.won ≡ report.won + won_of answer) × ((c.match-take.report.low ≡ report.low + low_of answer) × ((c.match-take.report.lost ≡ report.lost + lost_of answer) × (c.match-take.report.passes ≡ 1))) =
    elim c.match-take.branch [
      | in-Won w ↦ counts_won report c.match-take.report answer w.in-Won.t w.in-Won.is w.report-is i.passes
      | in-Low w ↦ counts_low report c.match-take.report answer w.in-Low.seen w.in-Low.is w.report-is i.passes
      | in-Lost w ↦ counts_lost report c.match-take.report answer w.in-Lost.seen w.in-Lost.found w.in-Lost.is w.report-is i.passes
    ] in
    let after : PassSoFar s cursor old old_remembered c.take.new.seat c.take.new.remembered ((c.loop-turn.at + 1) % c.len-n.result) (turn + 1) c.match-take.report.won c.match-take.report.low c.match-take.report.lost =
    subst (λ (z : List ℕ × (ℕ × (ℕ × (ℕ × ℕ)))). PassSoFar s cursor old old_remembered c.take.new.seat z.0 z.1.0 (turn + 1) z.1.1.0 z.1.1.1.0 z.1.1.1.1)
    (λ k. (sym c.take.ensures.remembered k, ((c.loop-turn.at + 1) % sym n k, (sym counts.0 k, (sym counts.1.0 k, sym counts.1.1.0 k))))) turned in
    let long : length c.take.new.remembered ≡ patches s = ap length c.take.ensures.remembered ∙ (length-set remembered patch (value_left answer) ∙ i.long) in
    elim c.if-turn-eq0.branch [
      | then-turn-eq0 w ↦ (
          let done : ((turn + 1) % group ≡ 0) ⊎ (turn + 1 ≡ patches s) = elim w.then-turn-eq0.branch [ then-turn-eq0-via-then-turn-eq0 w' ↦ inl w'.if-turn-eq0.true | then-turn-eq0-via-else-turn-eq0+then-turn-n w' ↦ inr (w'.if-turn-n.true ∙ n) ] in
          let given = then_gives s cursor old old_remembered c.take.new.seat c.take.new.remembered ((c.loop-turn.at + 1) % c.len-n.result) (turn + 1) c.match-take.report.won c.match-take.report.low c.match-take.report.lost after w.give_all.new.seat w.give_all.new.remembered w.give_all.ensures.gives done in
          group_done s cursor old old_remembered c.args.bank.now ((c.loop-turn.at + 1) % c.len-n.result) (turn + 1) c.match-take.report c.if-turn-eq0.seat c.if-turn-eq0.remembered w.give_all.new.seat w.give_all.new.remembered w.seat-is w.remembered-is
          w.give_all.ensures.of (w.give_all.ensures.lengths ∙ long) given counts.1.1.1 w.give_all.ensures.empty)
      | else-turn-eq0+else-turn-n w ↦ record {
        of = subst (IsSeatOf c.args.bank.now) (sym w.seat-is) c.take.ensures.of;
        long = ap length w.remembered-is ∙ long;
        done = subst (λ (z : SeatFacts × List ℕ). PassSoFar s cursor old old_remembered z.0 z.1 ((c.loop-turn.at + 1) % c.len-n.result) (turn + 1) c.match-take.report.won c.match-take.report.low c.match-take.report.lost) (λ k. (sym w.seat-is k, sym w.remembered-is k)) after;
        passes = counts.1.1.1;
        groups = λ e. absurd (w.if-turn-eq0.false e);
        ends = λ e. absurd (w.if-turn-n.false (e ∙ sym n));
      }
    ]

pub returns-clause-pass : goal.returns-clause-pass
returns-clause-pass g c =
    let i = c.loop-turn.invariant in
    let n = c.len-n.ensures.value in
    let test = c.loop-turn-test.false in
    let end = c.loop-turn.auto.turn-end in
    let all : c.loop-turn.turn ≡ patches c.args.system.now = omega arith in
    let report : PassReport = c.loop-turn.report in
    let whole = whole_pass c.args.system.now c.args.cursor c.args.seat.now c.args.remembered.now c.requires.cursor c.loop-turn.seat c.loop-turn.remembered c.loop-turn.at report.won report.low report.lost
    (subst (λ (turn : ℕ). PassSoFar c.args.system.now c.args.cursor c.args.seat.now c.args.remembered.now c.loop-turn.seat c.loop-turn.remembered c.loop-turn.at turn report.won report.low report.lost) all i.done) (i.ends all) in
    subst (λ (answer : PassReport). IsPass c.args.system.now (record { seat = c.args.seat.now; remembered = c.args.remembered.now; cursor = c.args.cursor }) answer (record { seat = c.loop-turn.seat; remembered = c.loop-turn.remembered; cursor = c.args.cursor }))
    (λ k. record { passes = sym i.passes k; won = report.won; low = report.low; lost = report.lost }) whole
