use Rattle.std.proofs.Common.{inl}
use Rattle.lux_plans.proofs.endings.conclude.Goals as goal

pub returns-in-Err : goal.returns-in-Err
returns-in-Err g c = λ shelf shelf'. rw c.in-Err.is (c.refuse.ensures shelf shelf' (g.K.Sink.state c.args.out.now))

pub returns-in-Ok : goal.returns-in-Ok
returns-in-Ok g c = λ shelf shelf'. rw c.in-Ok.is (inl (c.write.ensures shelf shelf'))
