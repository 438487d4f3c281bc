use Rattle.picker.proofs.Nodes.{leaf_values-set}
use Rattle.picker.proofs.tree.change.Goals as goal

pub returns-clause-values : goal.returns-clause-values
returns-clause-values c = leaf_values-set c.args.n c.args.nodes.now c.replay.new.nodes c.args.place c.args.value c.requires.tree.count c.requires.inside c.replay.ensures.leaves
