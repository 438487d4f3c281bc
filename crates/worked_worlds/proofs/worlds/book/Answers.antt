use Rattle.std.proofs.Common.{arith, rules}
use Rattle.worked_worlds.proofs.Fitting.{take_fits}
use Rattle.worked_worlds.proofs.worlds.book.Goals as goal

pub book-requires-clause-fits : goal.book-requires-clause-fits
book-requires-clause-fits g c = take_fits c.args.system.now c.args.patch c.args.t c.args.hand.now.amounts c.args.hand.now.fractions c.len.ensures.system (omega arith) (omega arith) (search rules) (search rules)
