use Rattle.lux_top.proofs.top.obey.Goals as goal

pub returns-in-Generate-clause-follows : goal.returns-in-Generate-clause-follows
returns-in-Generate-clause-follows g c = rw c.in-Generate.is (c.generate.ensures.follows _)
