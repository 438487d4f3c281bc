use Rattle.std.proofs.Common.{ap, ◌∙◌, length, ◌+◌, arith}
use Rattle.picker.specs.declared.contender.Contender.{Contender}
use Rattle.picker.proofs.Nodes.{leaf_values-are}
use Rattle.picker.proofs.tree.fill.Goals as goal

pub returns-clause-values : goal.returns-clause-values
returns-clause-values c =
    leaf_values-are c.args.values.now c.play.new.nodes
    (λ i h. ap (λ (one : Contender). one.value) (c.play.ensures.leaves (length c.args.values.now + i) (omega arith)) ∙ c.seed.ensures.values i h)
