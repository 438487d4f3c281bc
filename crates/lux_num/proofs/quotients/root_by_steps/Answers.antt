use Rattle.std.proofs.Common.{◌+◌, ◌<◌, ◌^◌, lit<, arith}
use Rattle.lux_num.proofs.Roots.{step_above, step_small, step_positive, reached, root_is, starts_above, first_step}
use Rattle.lux_num.proofs.quotients.root_by_steps.Goals as goal

pub loop-root-init : goal.loop-root-init
loop-root-init c =
    let first = first_step c.ilog2.result c.ilog2.ensures.bound in
    rw first.0 (record { positive = first.1; small = first.2; above = starts_above c.args.x c.ilog2.result c.ilog2.ensures.next_power_gt })

pub overflow_add-next : goal.overflow_add-next
overflow_add-next c =
    let small = step_small c.args.x c.loop-root.root c.loop-root.invariant.positive c.loop-root.invariant.above in
    let room : 2 ^ 32 + (2 ^ 32 + 2) < 2 ^ 64 = lit< tt in
    omega arith

pub loop-root-preserved : goal.loop-root-preserved
loop-root-preserved c = record { positive = step_positive c.args.x c.loop-root.root c.if-x-eq0.false c.loop-root.invariant.positive; small = omega arith; above = step_above c.args.x c.loop-root.root c.loop-root.invariant.positive }

pub returns-then-next-root-clause-square : goal.returns-then-next-root-clause-square
returns-then-next-root-clause-square c = reached c.args.x c.loop-root.root c.loop-root.invariant.positive c.if-next-root.true

pub returns-then-next-root-clause-value : goal.returns-then-next-root-clause-value
returns-then-next-root-clause-value c =
    root_is c.args.x c.loop-root.root (reached c.args.x c.loop-root.root c.loop-root.invariant.positive c.if-next-root.true) c.loop-root.invariant.above

pub returns-then-x-eq0-clause-value : goal.returns-then-x-eq0-clause-value
returns-then-x-eq0-clause-value c = root_is c.args.x 0 (omega arith) (omega arith)
