use Rattle.std.proofs.Common.{◌+◌, ◌-◌, arith}
use Rattle.lux_plans.proofs.Pieces.{piece_wrote, piece_wrote_some}
use Rattle.lux_plans.proofs.endings.put_all.Goals as goal

pub returns-in-Err : goal.returns-in-Err
returns-in-Err g c =
    let i = c.loop-start.start in
    let n = c.min-size.result in
    piece_wrote_some (g.K.Sink.state c.args.out.now) (g.K.Sink.state c.loop-start.out) (g.K.Sink.state c.put.new.self) c.args.bytes.now i n ((i + n) - i) (omega arith) (omega arith) c.loop-start.invariant.wrote c.in-Err.ensures

pub loop-start-preserved : goal.loop-start-preserved
loop-start-preserved g c =
    let i = c.loop-start.start in
    let n = c.min-size.result in
    record {
      in_range = omega arith;
      wrote = piece_wrote (g.K.Sink.state c.args.out.now) (g.K.Sink.state c.loop-start.out) (g.K.Sink.state c.put.new.self) c.args.bytes.now i n ((i + n) - i) (omega arith) (omega arith) c.loop-start.invariant.wrote c.in-Ok.ensures;
    }
