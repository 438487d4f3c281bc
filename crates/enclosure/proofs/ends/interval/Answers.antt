use Rattle.enclosure.proofs.Bounds.{pair_width}
use Rattle.enclosure.proofs.Enclosing.{encloses_pair}
use Rattle.enclosure.proofs.ends.interval.Goals as goal

pub returns-clause-encloses : goal.returns-clause-encloses
returns-clause-encloses c =
    encloses_pair c.args.system.now c.ends.ensures.system c.args.ledger.now c.requires.done c.args.j c.requires.patch c.ends.result c.ends.ensures.value

pub returns-clause-width : goal.returns-clause-width
returns-clause-width c = pair_width c.args.system.now c.ends.ensures.system c.args.ledger.now c.requires.done c.args.j c.requires.patch c.ends.result c.ends.ensures.value
