use Rattle.std.proofs.Common.{arith}
use Rattle.shot_core.proofs.Keeping.{taking_fits, taken_fits, wins_fit, parts_fit}
use Rattle.shot_core.proofs.shots.take.Goals as goal

pub overflow_add-taken : goal.overflow_add-taken
overflow_add-taken c =
    let fits = taken_fits c.args.system.now c.len.ensures.system c.args.ledger.now c.requires.balanced c.requires.paid c.requires.flux c.args.patch c.requires.patch c.requires.enough in
    omega arith

pub overflow_add-ledger : goal.overflow_add-ledger
overflow_add-ledger c =
    let fits = wins_fit c.args.system.now c.len.ensures.system c.args.ledger.now c.requires.balanced c.requires.paid c.requires.flux c.args.patch c.requires.patch c.requires.enough in
    omega arith

pub returns-clause-flux : goal.returns-clause-flux
returns-clause-flux c =
    let fits = taking_fits c.args.system.now c.len.ensures.system c.args.ledger.now c.requires.balanced c.requires.paid c.requires.flux c.args.patch c.requires.patch c.requires.enough in
    omega arith

pub returns-clause-fits : goal.returns-clause-fits
returns-clause-fits c =
    parts_fit c.args.system.now c.len.ensures.system c.args.ledger.now c.requires.balanced c.requires.paid c.requires.flux c.args.patch c.requires.patch c.requires.enough c.set-2.new.self c.get-t.result c.set-2.ensures c.get-t.ensures
