use Rattle.picker.proofs.Nodes.{root_on_leaf, root_at, root_most, root_place, root_value}
use Rattle.picker.proofs.tree.best.Goals as goal

pub returns-clause-place : goal.returns-clause-place
returns-clause-place c = root_place c.args.n c.args.nodes.now c.requires

pub returns-clause-value : goal.returns-clause-value
returns-clause-value c = root_value c.args.n c.args.nodes.now c.requires

pub returns-clause-inside : goal.returns-clause-inside
returns-clause-inside c = (root_on_leaf c.args.n c.args.nodes.now c.requires).inside

pub returns-clause-at : goal.returns-clause-at
returns-clause-at c = root_at c.args.n c.args.nodes.now c.requires

pub returns-clause-most : goal.returns-clause-most
returns-clause-most c = root_most c.args.n c.args.nodes.now c.requires
