use Rattle.shooter.proofs.Counts.{TurnsDone}
use Rattle.shooter.proofs.passes.make_turns.Given as goal

-- the turns up to here are done, and where a group ends nothing is in hand
abbrev pub invariant-loop-turn : goal.invariant-loop-turn
invariant-loop-turn g l = TurnsDone l.system l.cursor l.fn.seat l.fn.remembered l.bank l.at l.turn l.report l.seat l.remembered
